-- Worked cases: words, by computing.
use Rattle.std.proofs.Common.{◌≡◌, [], ◌∷◌, Some, None, codes, refl}
use Rattle.cept_run.specs.Words.{Flash, request_of}

-- a page through 600 turns at most, and it may be named as their number is
pub turns_600 : request_of (codes "flash" ∷ codes "p" ∷ codes "600" ∷ []) ≡ Some (Flash (codes "p") 600)
unfolding request_of
turns_600 = refl

pub turns_601 : request_of (codes "flash" ∷ codes "p" ∷ codes "601" ∷ []) ≡ None
unfolding request_of
turns_601 = refl

pub same_words : request_of (codes "flash" ∷ codes "3" ∷ codes "3" ∷ []) ≡ Some (Flash (codes "3") 3)
unfolding request_of
same_words = refl

pub two_words_more : request_of (codes "flash" ∷ codes "p" ∷ codes "p" ∷ codes "1" ∷ []) ≡ None
unfolding request_of
two_words_more = refl
