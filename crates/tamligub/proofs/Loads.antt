-- The word of a generated page that is painted.
use Rattle.std.proofs.Common.{◌≡◌, ℕ, Bool, true, false, cond, List, [], ◌∷◌, Option, Some, None, option_map, codes, refl, subst}
use Rattle.std.specs.Str.{is_utf8}
use Rattle.std.proofs.lemmas.Option.{none-some, same_Some}
use Rattle.cept_run.specs.declared.words.NumberAction.TheVariants as numbers
use Rattle.cept_run.specs.Course.{course_of}
use Rattle.cept_run.specs.Words.{Number, Request, number_of, request_of}
use Rattle.tamligub.specs.Words.{words_after, words_for}

paints_by : (number : Option ℕ) (request : Request) → option_map (Number numbers.Load) number ≡ Some request
    → (course_of request).painting ≡ true
paints_by None request is = absurd (none-some request is)
paints_by (Some n) request is =
    subst (λ (r : Request). (course_of r).painting ≡ true) (same_Some (Number numbers.Load n) request is) refl

paints_after : (after : List (List ℕ)) (request : Request) → request_of (codes "load" ∷ after) ≡ Some request
    → (course_of request).painting ≡ true
unfolding request_of
paints_after [] request is = absurd (none-some request is)
paints_after (number ∷ []) request is = paints_by (number_of number) request is
paints_after (a ∷ b ∷ more) request is = absurd (none-some request is)

paints_text : (text : Bool) (after : List (List ℕ)) (request : Request)
    → request_of (cond text (codes "load" ∷ after) []) ≡ Some request → (course_of request).painting ≡ true
unfolding request_of
paints_text true after request is = paints_after after request is
paints_text false after request is = absurd (none-some request is)

pub load_paints : (word : List ℕ) (given number : ℕ) (request : Request) → word ≡ codes "load"
    → request_of (words_for word given number) ≡ Some request → (course_of request).painting ≡ true
load_paints word given number request load asks =
    paints_text (is_utf8 (codes "load")) (words_after given number) request
    (subst (λ w. request_of (words_for w given number) ≡ Some request) load asks)
