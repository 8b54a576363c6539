use Rattle.std.proofs.Common.{◌≡◌, ◌-◌}
use Rattle.engine.specs.Answering.{state_of}
use Rattle.scaling.specs.Run.{write_backs}
use Rattle.scaling.proofs.handles.Committing.write_back_all.Given as goal

-- the write backs left lead to where all lead
abbrev pub invariant-loop : goal.invariant-loop
invariant-loop g l =
    write_backs (l.pairs - l.counter) l.self.client.0 (state_of g.T.Table.meaning l.engine)
    ≡ write_backs l.pairs l.self.client.0 (state_of g.T.Table.meaning l.initial.engine)
