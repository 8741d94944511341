-- Bytes that come from outside in order, and bytes that go there.
use Rattle.std.specs.Prelude.{◌≡◌, ℕ, ◌<◌, ◌≤◌, List, [], ◌++◌, length, take, drop, Option, option_map, IfSome}

-- A take put its `count` bytes at the front of the buffer. Where it is told what was left, they are
-- its front, and the rest is left. It takes none for a buffer that has room only where nothing was
-- left.
pub record Takes (left : Option (List ℕ)) (buffer : List ℕ) (count : ℕ)
    (left' : Option (List ℕ)) (buffer' : List ℕ) : Type 0 where
  pub within : count ≤ length buffer
  pub front : IfSome left (λ bytes. bytes ≡ take count buffer' ++ drop count bytes)
  pub rest : left' ≡ option_map (drop count) left
  pub ended : 0 < length buffer → count ≡ 0 → IfSome left (λ bytes. bytes ≡ [])

-- What was given so far, where it is told, with these bytes behind it.
abbrev pub gained : Option (List ℕ) → List ℕ → Option (List ℕ)
gained given bytes = option_map (λ before. before ++ bytes) given

-- A give added its first `count` bytes to what was given, at least one of a piece that has any.
pub record Gives (given : Option (List ℕ)) (piece : List ℕ) (count : ℕ)
    (given' : Option (List ℕ)) : Type 0 where
  pub within : count ≤ length piece
  pub some : 0 < length piece → 0 < count
  pub grown : given' ≡ gained given (take count piece)
