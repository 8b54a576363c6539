-- What a source gives of a line.
use Rattle.std.specs.Prelude.{◌≡◌, ℕ, List, [], ◌∷◌, ◌++◌, Option}
use Rattle.std.specs.Io.KnownBytes.{Keeps, Consumes, IsAtEnd}
use Rattle.lineplay.specs.declared.feed.Stop.{Stop}
use Rattle.lineplay.specs.declared.feed.Stop.TheVariants.{LineEnd, ChunkEnd, SourceEnd}

-- a source gave `part` of a line, and no more of it for this reason
abbrev pub Gives : Stop → List ℕ → Option (List ℕ) → Option (List ℕ) → Type 0
Gives LineEnd part old new = Consumes old new (part ++ 10 ∷ [])
Gives ChunkEnd part old new = Consumes old new part
Gives SourceEnd part old new = (part ≡ []) × IsAtEnd old × Keeps old new
