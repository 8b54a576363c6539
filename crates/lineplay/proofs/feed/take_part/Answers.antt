use Rattle.std.proofs.Common.{◌≢◌, ◌+◌, [], ◌∷◌, ◌++◌, length, take, refl, ap, subst, ◌∙◌, rules, arith}
use Rattle.std.proofs.lemmas.List.{take_more}
use Rattle.std.proofs.lemmas.List.Elements.{All-nil}
use Rattle.std.specs.Io.KnownBytes.{Consumes}
use Rattle.std.specs.Io.BufRead.{FillKeeps}
use Rattle.std.proofs.KnownBytes.{Consumes-nil, Consumes-kept}
use Rattle.std.proofs.BufReadLemmas.{Consumes_shown}
use Rattle.lineplay.proofs.Reading.{kept_nothing, at_end, none_before}
use Rattle.lineplay.proofs.feed.take_part.Goals as goal

pub returns-then-eq : goal.returns-then-eq
returns-then-eq g c =
    let long = c.args.line.now.ok.0 in (
      [],
      All-nil (λ b. b ≢ 10),
      λ short. kept_nothing c.args.line.now.items (omega arith),
      Consumes-kept _ _ _ [] (Consumes-nil _) c.fill_buf.follows.holds-at-none.0,
    )

pub returns-then-is_empty : goal.returns-then-is_empty
returns-then-is_empty g c =
    let long = c.args.line.now.ok.0 in (
      [],
      All-nil (λ b. b ≢ 10),
      λ short. kept_nothing c.args.line.now.items (omega arith),
      (refl, at_end (g.B.Read.remaining c.args.source.now) (length c.in-Ok.read.now) (search rules) c.in-Ok.ensures.end, c.fill_buf.follows.holds-at-none.0),
    )

pub returns-then-end-read : goal.returns-then-end-read
returns-then-end-read g c =
    let read = c.in-Ok.read.now in
    let end = c.line_end-end in
    let rested = c.fill_buf.follows.lender-at-none in
    let filled = subst (FillKeeps _ (g.B.Read.remaining rested) (g.B.BufRead.consumable_len rested)) c.in-Ok.is c.fill_buf.follows.holds-at-none in
    let moved = Consumes_shown _ _ _ _ read (end.result + 1) (omega (arith, c.if-end-read.true)) c.in-Ok.ensures.front c.in-Ok.ensures.end filled.0 filled.1 c.consume.ensures.bytes in
    let whole = take_more read end.result 0 c.if-end-read.true ∙ ap (λ b. take end.result read ++ b ∷ []) (end.ensures.found c.if-end-read.true) in (
      take end.result read,
      none_before read end.result end.ensures.within end.ensures.before,
      c.in_ok-keep.ensures,
      subst (Consumes _ _) whole moved.0,
    )

pub returns-else-end-read : goal.returns-else-end-read
returns-else-end-read g c =
    let read = c.in-Ok.read.now in
    let end = c.line_end-end in
    let rested = c.fill_buf.follows.lender-at-none in
    let filled = subst (FillKeeps _ (g.B.Read.remaining rested) (g.B.BufRead.consumable_len rested)) c.in-Ok.is c.fill_buf.follows.holds-at-none in
    let moved = Consumes_shown _ _ _ _ read end.result end.ensures.within c.in-Ok.ensures.front c.in-Ok.ensures.end filled.0 filled.1 c.consume-else-end-read.ensures.bytes in (
      take end.result read,
      none_before read end.result end.ensures.within end.ensures.before,
      c.in_ok-keep.ensures,
      moved.0,
    )
