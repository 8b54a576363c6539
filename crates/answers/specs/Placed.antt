-- Bytes placed in a buffer.
use Rattle.std.specs.Prelude.{ℕ, ◌+◌, List, ◌++◌, length, take, drop}

-- The buffer with some bytes placed from an offset on, and every other byte as it was.
abbrev pub placed : ℕ → List ℕ → List ℕ → List ℕ
placed at bytes buffer = take at buffer ++ (bytes ++ drop (at + length bytes) buffer)
