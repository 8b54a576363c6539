-- How answers are written.
use Rattle.std.specs.Prelude.{ℕ, List, [], ◌∷◌, ◌++◌, Ok, Err, codes, decimal, Result}
use Rattle.std.specs.Fmt.{signed_decimal}
use Rattle.plant.specs.RefusalList.{refusal_number}
use Rattle.rules.specs.declared.Fate.{Fate}
use Rattle.rules.specs.declared.Answer.{Answer}
use Rattle.script.specs.declared.reader.Fault.{Fault}

-- The closing bracket and the line's end.
abbrev pub line_close : List ℕ
line_close = 41 ∷ 10 ∷ []

-- What became of an element at its write back.
abbrev pub fate_text : Fate → List ℕ
fate_text Fate.Written = codes " written"
fate_text Fate.Dropped = codes " dropped"

-- A call's answer as a line.
abbrev pub answered : Answer → List ℕ
answered Answer.Done = codes "(ok" ++ line_close
answered (Answer.Number v) = codes "(ok " ++ (signed_decimal v ++ line_close)
answered (Answer.WroteBack element fate) = codes "(ok " ++ (decimal element.0 ++ (fate_text fate ++ line_close))
answered Answer.Wait = codes "(wait" ++ line_close
answered Answer.Lost = codes "(lost" ++ line_close
answered (Answer.Refused r) = codes "(no " ++ (decimal (refusal_number r) ++ line_close)

-- A fault as a line.
abbrev pub faulted : Fault → List ℕ
faulted f = codes "(fault " ++ (decimal (refusal_number f.refusal) ++ (codes " " ++ (decimal f.place ++ line_close)))

-- The bytes of what a line of a script brings: the call's answer, or the line's own fault.
abbrev pub answer_bytes : Result Answer Fault → List ℕ
answer_bytes (Ok a) = answered a
answer_bytes (Err f) = faulted f
