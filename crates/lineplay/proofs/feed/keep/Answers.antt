use Rattle.std.proofs.Common.{arith}
use Rattle.std.proofs.lemmas.Result.{on_ok_weaker}
use Rattle.lineplay.proofs.Reading.{kept}
use Rattle.lineplay.proofs.feed.keep.Goals as goal

pub returns : goal.returns
returns c =
    let long = c.args.line.now.ok.0 in
    on_ok_weaker c.extend_from_slice.result (λ h short. h (omega arith))
    (kept c.extend_from_slice.result c.args.line.now.items _ c.args.bytes.now c.min.result (omega arith) c.extend_from_slice.ensures.items)
