-- The call that a form asks for. Here, and nowhere else, a plain number becomes that of a client, an element or a pointer.
use Rattle.std.specs.Prelude.{ℕ, Some, None, Option}
use Rattle.plant.specs.declared.tables.Element.{Element}
use Rattle.ranks.specs.declared.Client.{Client}
use Rattle.ranks.specs.declared.Grade.{Grade}
use Rattle.ranks.specs.declared.Due.{Due}
use Rattle.rules.specs.declared.Pointer.{Pointer}
use Rattle.rules.specs.declared.Call.{Call}
use Rattle.forms.specs.declared.makers.Form.{Form}

-- The client, element and pointer of a number, and the grade.
abbrev pub client : ℕ → Client
client n = record { 0 = n }

abbrev pub element : ℕ → Element
element n = record { 0 = n }

abbrev pub pointer : ℕ → Pointer
pointer n = record { 0 = n }

abbrev pub grade : ℕ → Grade
grade n = record { 0 = n }

-- The call that a form without a rank asks for. An open is no call, and a begin has a rank.
abbrev pub plain_call : {K : Type 0} → Form → Option (Call K)
plain_call (Form.Open n k) = None
plain_call (Form.BeginGrade c g) = None
plain_call (Form.BeginDue c m w) = None
plain_call (Form.Lock c kind e) = Some (Call.Lock (client c) kind (element e))
plain_call (Form.Read c e) = Some (Call.Read (client c) (element e))
plain_call (Form.Change c e v) = Some (Call.Change (client c) (element e) v)
plain_call (Form.Commit c) = Some (Call.Commit (client c))
plain_call (Form.Back c) = Some (Call.WriteBack (client c))
plain_call (Form.End c) = Some (Call.End (client c))
plain_call (Form.GiveUp c) = Some (Call.GiveUp (client c))
plain_call (Form.Clear c) = Some (Call.Clear (client c))
plain_call (Form.Bind p e) = Some (Call.Bind (pointer p) (element e))
plain_call (Form.Remove p) = Some (Call.Remove (pointer p))
plain_call (Form.Get p) = Some (Call.HardRead (pointer p))
plain_call (Form.Put p v) = Some (Call.HardWrite (pointer p) v)

-- With grades, a form asks for a begin of its grade, or for what it asks without a rank.
abbrev pub grade_call : Form → Option (Call Grade)
grade_call (Form.BeginGrade c g) = Some (Call.Begin (client c) (grade g))
grade_call form = plain_call form

-- With due times, a begin has a minute and a weight.
abbrev pub due_call : Form → Option (Call Due)
due_call (Form.BeginDue c m w) = Some (Call.Begin (client c) (record { minute = m; weight = w }))
due_call form = plain_call form
