-- Bytes after others, the last one first.
use Rattle.std.proofs.Common.{ℕ, List, [], ◌∷◌}

-- these, after those, the last one first
abbrev pub onto : List ℕ → List ℕ → List ℕ
onto [] h = h
onto (a ∷ u) h = onto u (a ∷ h)
