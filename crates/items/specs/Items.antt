-- The items of a script line.
use Rattle.std.specs.Prelude.{◌≡◌, ℕ, ◌+◌, ◌-◌, min, Bool, true, false, cond, not, ◌||◌, List, [], ◌∷◌, length, drop, take_while, ℤ, Some, None, Option, ◌==◌}
use Rattle.std.specs.List.{prefix_len}
use Rattle.items.specs.Numerals.{number_of, Numeral}
use Rattle.items.specs.declared.cutter.Kind.{Kind}
use Rattle.items.specs.declared.cutter.Item.{Item}
use Rattle.items.specs.declared.cutter.Cutter.{Cutter}

-- What can stand at a place of a line: a bracket, a word, a number, or the line's end.
pub data Mark : Type 0 where
  opening : Mark
  closing : Mark
  word : List ℕ → Mark
  number : ℤ → Mark
  line_end : Mark

-- Whether a byte belongs to a run: each does but the space and the brackets.
abbrev pub is_in_run : ℕ → Bool
is_in_run b = not (b == 32 || (b == 40 || b == 41))

-- The longest run at the front of some bytes.
abbrev pub run_of : List ℕ → List ℕ
run_of bytes = take_while is_in_run bytes

-- How many spaces stand at the front of some bytes.
abbrev pub spaces_of : List ℕ → ℕ
spaces_of bytes = prefix_len (λ b. b == 32) bytes

-- A run is a number if it can be, else a word.
abbrev pub mark_by : List ℕ → Option ℤ → Mark
mark_by text None = word text
mark_by text (Some z) = number z

-- What a run is, by what the number reader makes of it.
abbrev pub run_mark : List ℕ → Mark
run_mark text = mark_by text (number_of text)

-- The items of some bytes that begin at the given place, each with the place of its first byte, and behind them the
-- line's end. A bracket is an item; so is each run, which starts at a byte that is neither space nor bracket and has
-- no such byte in front (`within` says that it has).
abbrev pub items : Bool → ℕ → List ℕ → List (ℕ × Mark)
items within place [] = (place, line_end) ∷ []
items within place (b ∷ bs) =
    cond (b == 32) (items false (place + 1) bs)
    (cond (b == 40) ((place, opening) ∷ items false (place + 1) bs)
    (cond (b == 41) ((place, closing) ∷ items false (place + 1) bs)
    (cond within (items true (place + 1) bs) ((place, run_mark (run_of (b ∷ bs))) ∷ items true (place + 1) bs))))

-- Whether a mark is the line's end.
abbrev pub is_end : Mark → Bool
is_end line_end = true
is_end _ = false

-- The items behind the first one; at the line's end one stays there.
abbrev pub behind : List (ℕ × Mark) → List (ℕ × Mark)
behind [] = []
behind (it ∷ its) = cond (is_end it.1) (it ∷ its) its

-- What stands behind the first item; nothing stands behind the line's end.
abbrev pub after_item : Mark → List (ℕ × Mark) → List (ℕ × Mark)
after_item line_end rest = []
after_item _ rest = rest

-- What a kind of the code stands for.
abbrev pub mark_of : Kind → Mark
mark_of Kind.Open = opening
mark_of Kind.Close = closing
mark_of (Kind.Word text) = word text.now
mark_of (Kind.Number text z) = number z
mark_of Kind.End = line_end

-- The place and the mark that an item of the code stands for.
abbrev pub seen : Item → ℕ × Mark
seen item = (item.place, mark_of item.kind)

-- How many bytes an item has. The line's end has none.
abbrev pub length_of : Kind → ℕ
length_of Kind.Open = 1
length_of Kind.Close = 1
length_of (Kind.Word text) = length text.now
length_of (Kind.Number text z) = length text.now
length_of Kind.End = 0

-- The offset behind an item: that of its first byte, and as many more as it has bytes.
abbrev pub end_of : Item → ℕ
end_of item = item.place - 1 + length_of item.kind

-- A word or a number borrows the run at the front of the bytes, and a number is the one that the run spells.
abbrev pub IsCutFrom : List ℕ → Kind → Type 0
IsCutFrom bytes (Kind.Word text) = text.now ≡ run_of bytes
IsCutFrom bytes (Kind.Number text z) = (text.now ≡ run_of bytes) × Numeral text.now z
IsCutFrom bytes _ = Unit {0}

-- What is left of a line from an offset, as items. An offset behind the line's end counts as its end.
abbrev pub items_from : List ℕ → ℕ → List (ℕ × Mark)
items_from line offset = let at = min offset (length line) in items false (at + 1) (drop at line)

-- The items that a cutter has left.
abbrev pub left : Cutter → List (ℕ × Mark)
left cutter = items_from cutter.line.now cutter.offset
