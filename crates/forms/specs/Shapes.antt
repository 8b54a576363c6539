-- The table of shapes: what each form looks like, item by item.
use Rattle.std.specs.Prelude.{ℕ, Bool, true, false, List, [], ◌∷◌, ℤ, pos, negsuc, Some, None, codes, Option}
use Rattle.rules.specs.declared.LockKind.{LockKind}
use Rattle.forms.specs.declared.shapes.RankKind.{RankKind}
use Rattle.forms.specs.declared.shapes.Role.{Role}
use Rattle.forms.specs.declared.shapes.Word.{Word}
use Rattle.forms.specs.declared.shapes.Part.{Part}
use Rattle.forms.specs.declared.shapes.Shape.{Shape}

-- How each word is written.
abbrev pub spell : Word → List ℕ
spell Word.Open = codes "open"
spell Word.Begin = codes "begin"
spell Word.Lock = codes "lock"
spell Word.Read = codes "read"
spell Word.Write = codes "write"
spell Word.Change = codes "change"
spell Word.Commit = codes "commit"
spell Word.Back = codes "back"
spell Word.End = codes "end"
spell Word.GiveUp = codes "giveup"
spell Word.Clear = codes "clear"
spell Word.Bind = codes "bind"
spell Word.Remove = codes "remove"
spell Word.Get = codes "get"
spell Word.Put = codes "put"
spell Word.Grade = codes "grade"
spell Word.Due = codes "due"

-- The smallest number that may stand for each thing.
abbrev pub lowest : Role → ℤ
lowest Role.Value = negsuc 2_147_483_647
lowest _ = pos 0

-- The largest one.
abbrev pub highest : Role → ℤ
highest Role.Count = pos 256
highest Role.Grade = pos 255
highest Role.Value = pos 2_147_483_647
highest _ = pos 65_535

-- The items of each shape, the line's end last.
abbrev pub parts_of : Shape → List Part
parts_of (Shape.Open RankKind.Grade) = Part.Open ∷ Part.Word Word.Open ∷ Part.Number Role.Count ∷ Part.Open ∷ Part.Word Word.Grade ∷ Part.Close ∷ Part.Close ∷ Part.End ∷ []
parts_of (Shape.Open RankKind.Due) = Part.Open ∷ Part.Word Word.Open ∷ Part.Number Role.Count ∷ Part.Open ∷ Part.Word Word.Due ∷ Part.Close ∷ Part.Close ∷ Part.End ∷ []
parts_of (Shape.Begin RankKind.Grade) = Part.Open ∷ Part.Word Word.Begin ∷ Part.Number Role.Client ∷ Part.Open ∷ Part.Word Word.Grade ∷ Part.Number Role.Grade ∷ Part.Close ∷ Part.Close ∷ Part.End ∷ []
parts_of (Shape.Begin RankKind.Due) = Part.Open ∷ Part.Word Word.Begin ∷ Part.Number Role.Client ∷ Part.Open ∷ Part.Word Word.Due ∷ Part.Number Role.Minute ∷ Part.Number Role.Weight ∷ Part.Close ∷ Part.Close ∷ Part.End ∷ []
parts_of (Shape.Lock LockKind.Read) = Part.Open ∷ Part.Word Word.Lock ∷ Part.Number Role.Client ∷ Part.Open ∷ Part.Word Word.Read ∷ Part.Number Role.Element ∷ Part.Close ∷ Part.Close ∷ Part.End ∷ []
parts_of (Shape.Lock LockKind.Write) = Part.Open ∷ Part.Word Word.Lock ∷ Part.Number Role.Client ∷ Part.Open ∷ Part.Word Word.Write ∷ Part.Number Role.Element ∷ Part.Close ∷ Part.Close ∷ Part.End ∷ []
parts_of Shape.Read = Part.Open ∷ Part.Word Word.Read ∷ Part.Number Role.Client ∷ Part.Number Role.Element ∷ Part.Close ∷ Part.End ∷ []
parts_of Shape.Change = Part.Open ∷ Part.Word Word.Change ∷ Part.Number Role.Client ∷ Part.Number Role.Element ∷ Part.Number Role.Value ∷ Part.Close ∷ Part.End ∷ []
parts_of Shape.Commit = Part.Open ∷ Part.Word Word.Commit ∷ Part.Number Role.Client ∷ Part.Close ∷ Part.End ∷ []
parts_of Shape.Back = Part.Open ∷ Part.Word Word.Back ∷ Part.Number Role.Client ∷ Part.Close ∷ Part.End ∷ []
parts_of Shape.End = Part.Open ∷ Part.Word Word.End ∷ Part.Number Role.Client ∷ Part.Close ∷ Part.End ∷ []
parts_of Shape.GiveUp = Part.Open ∷ Part.Word Word.GiveUp ∷ Part.Number Role.Client ∷ Part.Close ∷ Part.End ∷ []
parts_of Shape.Clear = Part.Open ∷ Part.Word Word.Clear ∷ Part.Number Role.Client ∷ Part.Close ∷ Part.End ∷ []
parts_of Shape.Bind = Part.Open ∷ Part.Word Word.Bind ∷ Part.Number Role.Pointer ∷ Part.Number Role.Element ∷ Part.Close ∷ Part.End ∷ []
parts_of Shape.Remove = Part.Open ∷ Part.Word Word.Remove ∷ Part.Number Role.Pointer ∷ Part.Close ∷ Part.End ∷ []
parts_of Shape.Get = Part.Open ∷ Part.Word Word.Get ∷ Part.Number Role.Pointer ∷ Part.Close ∷ Part.End ∷ []
parts_of Shape.Put = Part.Open ∷ Part.Word Word.Put ∷ Part.Number Role.Pointer ∷ Part.Number Role.Value ∷ Part.Close ∷ Part.End ∷ []

-- All shapes.
abbrev pub shapes : List Shape
shapes =
    Shape.Open RankKind.Grade ∷ Shape.Open RankKind.Due ∷ Shape.Begin RankKind.Grade ∷ Shape.Begin RankKind.Due ∷ Shape.Lock LockKind.Read ∷ Shape.Lock LockKind.Write ∷ Shape.Read ∷ Shape.Change ∷ Shape.Commit ∷ Shape.Back ∷ Shape.End ∷ Shape.GiveUp ∷ Shape.Clear ∷ Shape.Bind ∷ Shape.Remove ∷ Shape.Get ∷ Shape.Put ∷ []

-- The rank kind that a shape belongs to, if it belongs to one.
abbrev pub rank_kind : Shape → Option RankKind
rank_kind (Shape.Open kind) = Some kind
rank_kind (Shape.Begin kind) = Some kind
rank_kind _ = None

-- Whether two rank kinds are the same.
abbrev pub same_kind : RankKind → RankKind → Bool
same_kind RankKind.Grade RankKind.Grade = true
same_kind RankKind.Grade RankKind.Due = false
same_kind RankKind.Due RankKind.Grade = false
same_kind RankKind.Due RankKind.Due = true

-- Whether two rank kinds, each known or not, may stand together: they may unless they differ.
abbrev pub together : Option RankKind → Option RankKind → Bool
together None kind = true
together (Some opened) None = true
together (Some opened) (Some kind) = same_kind opened kind

-- Whether a shape is allowed. Before an open each is; then none of the other rank kind.
abbrev pub allows : Option RankKind → Shape → Bool
allows opened shape = together opened (rank_kind shape)
