use Rattle.std.proofs.Common.{◌≢◌, ◌++◌, length, take, ap, subst, ◌∙◌, arith, length-take, append-nil}
use Rattle.std.proofs.lemmas.List.Elements.{All-same, All-take, All-append}
use Rattle.std.proofs.KnownBytes.{Consumes-trans}
use Rattle.lineplay.specs.Reading.{Gives}
use Rattle.lineplay.proofs.Reading.{kept_more, whole_line, some_kept, last_line}
use Rattle.lineplay.proofs.feed.take_line.Goals as goal

pub loop-preserved : goal.loop-preserved
loop-preserved g c =
    let (done, none, is, read) = c.loop.invariant in
    let (part, none', more, gives) = c.in_ok-take_part.ensures in
    let long = c.loop.line.ok.0 in (
      done ++ part,
      All-append (λ b. b ≢ 10) done part none none',
      kept_more done part _ _ is (λ short. more (omega arith)),
      Consumes-trans _ _ _ done part read (subst (λ s. Gives s part (g.B.Read.remaining c.loop.source) (g.B.Read.remaining c.take_part.new.source)) c.in-ChunkEnd.is gives),
    )

pub returns-in-LineEnd : goal.returns-in-LineEnd
returns-in-LineEnd g c =
    let (done, none, is, read) = c.loop.invariant in
    let (part, none', more, gives) = c.in_ok-take_part.ensures in
    let long = c.loop.line.ok.0 in
    let kept = kept_more done part _ _ is (λ short. more (omega arith)) in
    let ended = subst (λ s. Gives s part (g.B.Read.remaining c.loop.source) (g.B.Read.remaining c.take_part.new.source)) c.in-LineEnd.is gives in
    let line = whole_line (g.B.Read.remaining c.args.source.now) _ _ done part _ none none' read ended kept in
    record {
      bytes = line.0;
      end = line.1;
      whole = All-same (λ b. b ≢ 10) _ _ kept (All-take (λ b. b ≢ 10) 121 (done ++ part) (All-append (λ b. b ≢ 10) done part none none'));
      short = omega (arith, c.take_part.new.line.ok.0, ap length kept, length-take 121 (done ++ part));
      rest = line.2;
    }

pub returns-in-SourceEnd : goal.returns-in-SourceEnd
returns-in-SourceEnd g c =
    let (done, none, is, read) = c.loop.invariant in
    let (part, none', more, gives) = c.in_ok-take_part.ensures in
    let ended = subst (λ s. Gives s part (g.B.Read.remaining c.loop.source) (g.B.Read.remaining c.take_part.new.source)) c.in-SourceEnd.is gives in
    let long = c.loop.line.ok.0 in
    let kept = kept_more done part _ _ is (λ short. more (omega arith)) ∙ ap (λ l. take 121 (done ++ l)) ended.0 ∙ ap (take 121) (append-nil done) in
    let line = last_line (g.B.Read.remaining c.args.source.now) _ _ done _ _ none read ended.1 ended.2 kept
    (some_kept c.is_empty.result _ c.take_part.new.line.items c.take_part.new.line.ok.0 c.is_empty.ensures) in
    record {
      bytes = line.0;
      end = line.1;
      whole = All-same (λ b. b ≢ 10) _ _ kept (All-take (λ b. b ≢ 10) 121 done none);
      short = omega (arith, c.take_part.new.line.ok.0, ap length kept, length-take 121 done);
      rest = line.2;
    }
