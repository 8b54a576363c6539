use Rattle.std.proofs.Common.{sym, ◌∙◌, arith, rules}
use Rattle.std.proofs.lemmas.Iterator.Consumers.{YieldsList-turn, YieldsList-end}
use Rattle.rules.specs.declared.ClientState.TheVariants.{ThrownOut}
use Rattle.book.specs.Model.{model}
use Rattle.book.specs.Requests.{blocks}
use Rattle.book.proofs.ReadLaws.{sound_of}
use Rattle.book.proofs.LeaveLaws.{leave_start, leave_all}
use Rattle.book.proofs.ScanLaws.{YieldsList-from_clients, next_client}
use Rattle.book.proofs.ThrowLaws.{blocks_none, thrown_more, thrown_past}
use Rattle.book.proofs.keeping.Book.throw_out.Goals as goal

pub loop-client-init : goal.loop-client-init
loop-client-init c = λ m. leave_start (λ d. blocks c.args.self.now.inner c.args.request d) ThrownOut (model m c.args.self.now.inner)

pub loop-client-preserved-then-is_blocked_by : goal.loop-client-preserved-then-is_blocked_by
loop-client-preserved-then-is_blocked_by c =
    thrown_more c.args.self.now.inner c.loop-client.self.inner c.args.request c.loop-client.yielded c.in-Some.client
    (next_client _ c.in-Some.client (YieldsList-turn (YieldsList-from_clients _ (search rules) (search rules) (λ x r q k. search rules)) c.loop-client.yielded _ c.loop-client.yielded_by _ _ _ c.in-Some.is c.next.ensures.steps))
    c.loop-client.invariant c.leave.new.self.inner (sym c.is_blocked_by.ensures ∙ c.if-is_blocked_by.true) c.leave.ensures

pub loop-client-preserved : goal.loop-client-preserved
loop-client-preserved c =
    thrown_past c.args.self.now.inner c.loop-client.self.inner c.args.request c.loop-client.yielded c.in-Some.client
    (next_client _ c.in-Some.client (YieldsList-turn (YieldsList-from_clients _ (search rules) (search rules) (λ x r q k. search rules)) c.loop-client.yielded _ c.loop-client.yielded_by _ _ _ c.in-Some.is c.next.ensures.steps))
    c.loop-client.invariant (sym c.is_blocked_by.ensures ∙ c.if-is_blocked_by.false)

pub returns : goal.returns
returns c =
    let all = YieldsList-end (YieldsList-from_clients _ (search rules) (search rules) (λ x r q k. search rules)) c.loop-client.yielded _ c.loop-client.yielded_by _ _ c.in-None.is c.next.ensures.steps in
    λ m. c.loop-client.invariant m
    ∙ leave_all (λ d. blocks c.args.self.now.inner c.args.request d) ThrownOut (model m c.args.self.now.inner) _
    (λ d l. blocks_none c.args.self.now.inner (sound_of c.args.self.now) c.args.request d (omega (arith, all.1)))
