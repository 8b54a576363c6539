-- The forms that lines stand for, and the numbers in them.
use Rattle.std.specs.Prelude.{Bool, true, false, ◌&&◌, ℤ, pos, int_le, unsigned_abs}
use Rattle.forms.specs.Shapes.{lowest, highest}
use Rattle.forms.specs.declared.shapes.RankKind.{RankKind}
use Rattle.forms.specs.declared.shapes.Role.{Role}
use Rattle.forms.specs.declared.shapes.Shape.{Shape}
use Rattle.forms.specs.declared.makers.Form.{Form}
use Rattle.forms.specs.declared.makers.Numbers.{Numbers}

-- Whether a number lies in the range of what it stands for.
abbrev pub in_range : Role → ℤ → Bool
in_range role z = int_le (lowest role) z && int_le z (highest role)

-- No numbers yet.
abbrev pub blank : Numbers
blank = record { client = 0; element = 0; pointer = 0; count = 0; grade = 0; minute = 0; weight = 0; value = pos 0 }

-- The numbers with one more, put down for what it stands for.
abbrev pub noted : Numbers → Role → ℤ → Numbers
noted n Role.Client z = record n { client = unsigned_abs z }
noted n Role.Element z = record n { element = unsigned_abs z }
noted n Role.Pointer z = record n { pointer = unsigned_abs z }
noted n Role.Count z = record n { count = unsigned_abs z }
noted n Role.Grade z = record n { grade = unsigned_abs z }
noted n Role.Minute z = record n { minute = unsigned_abs z }
noted n Role.Weight z = record n { weight = unsigned_abs z }
noted n Role.Value z = record n { value = z }

-- The form that a shape and the numbers in it make.
abbrev pub form_of : Shape → Numbers → Form
form_of (Shape.Open kind) n = Form.Open n.count kind
form_of (Shape.Begin RankKind.Grade) n = Form.BeginGrade n.client n.grade
form_of (Shape.Begin RankKind.Due) n = Form.BeginDue n.client n.minute n.weight
form_of (Shape.Lock kind) n = Form.Lock n.client kind n.element
form_of Shape.Read n = Form.Read n.client n.element
form_of Shape.Change n = Form.Change n.client n.element n.value
form_of Shape.Commit n = Form.Commit n.client
form_of Shape.Back n = Form.Back n.client
form_of Shape.End n = Form.End n.client
form_of Shape.GiveUp n = Form.GiveUp n.client
form_of Shape.Clear n = Form.Clear n.client
form_of Shape.Bind n = Form.Bind n.pointer n.element
form_of Shape.Remove n = Form.Remove n.pointer
form_of Shape.Get n = Form.Get n.pointer
form_of Shape.Put n = Form.Put n.pointer n.value

-- Whether a form is an open.
abbrev pub opens : Form → Bool
opens (Form.Open count kind) = true
opens _ = false
