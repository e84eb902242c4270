-- Commands of cells, rows and the screen stand in mode Text, or anywhere where their spelling begins with a breaker.
use Rattle.std.proofs.Common.{◌≡◌, ◌⊎◌, ℕ, zero, suc, ◌+◌, ◌<◌, ◌≤◌, true, false, not, List, [], ◌∷◌, ◌++◌}
use Rattle.std.proofs.Common.{refl, sym, ap, ◌∙◌, subst, arith, inl, inr}
use Rattle.std.proofs.lemmas.Bool.Decides.{nat_tests}
use Rattle.std.specs.List.{flat_map, range_with_len}
use Rattle.cept_codes.specs.declared.command.Command.{Command}
use Rattle.cept_codes.specs.declared.command.Command.TheVariants as command
use Rattle.cept_parser.specs.declared.context.Context.{Context}
use Rattle.cept_parser.specs.declared.context.Mode.TheVariants.{Text}
use Rattle.cept_parser.specs.Bytes.{is_plain}
use Rattle.cept_parser.specs.Context.{with_mode}
use Rattle.cept_parser.specs.ReadsAs.{begins_anew}
use Rattle.cept_parser.specs.Spelling.{spelling, context_after, IsSpelled, may_grow, spellings, context_after_all}
use Rattle.cept_parser.specs.Spelling.{AreSpelled, IsTextual, AreTextual}

-- after one the mode is Text
pub textual_after : (x : Context) (c : Command) → IsTextual c → context_after x c ≡ with_mode x Text
unfolding context_after
textual_after x (command.Revision revision) h = refl
textual_after x (command.Format rows wrap) h = refl
textual_after x (command.Table k) h = refl
textual_after x (command.C1 n) h = refl
textual_after x (command.FlashMode k) h = refl
textual_after x command.StopConceal h = refl
textual_after x (command.FullScreen n) h = refl
textual_after x (command.FullRow n) h = refl
textual_after x (command.Position r c) h = refl
textual_after x (command.Protect on) h = refl
textual_after x (command.DesignateC1 set) h = refl
textual_after x (command.Graphic b) h = refl
textual_after x (command.LockLeft g) h = refl
textual_after x (command.Designate g set) h = refl
textual_after x (command.Single g) h = refl
textual_after x (command.Repeat n) h = refl
textual_after x (command.AreaCreate a b) h = refl
textual_after x (command.Implicit on) h = refl
textual_after x _ h = absurd h

-- none of them may grow
textual_ends : (c : Command) → IsTextual c → may_grow c ≡ false
textual_ends (command.ColourHeader dclut) h = absurd h
textual_ends _ h = refl

-- the mode is Text, or the bytes begin with a breaker
abbrev StandsIn : Context → List ℕ → Type 0
StandsIn x b = (x.mode ≡ Text) ⊎ (begins_anew b ≡ true)

sign_stands : (x : Context) (b : ℕ) (s : List ℕ) → 0x20 ≤ b → b ≤ 0x7F → StandsIn x (b ∷ s) → x.mode ≡ Text
sign_stands x b s l m (inl e) = e
sign_stands x b s l m (inr h) =
    let p : is_plain b ≡ true = grind (arith, nat_tests) in
    absurd (let q : not true ≡ true = rw p at h in cc)

textual_is : (x : Context) (c : Command) (s : List ℕ) → IsTextual c → StandsIn x (spelling c ++ s) → IsSpelled x c
unfolding IsSpelled spelling
textual_is x (command.Revision revision) s h k = h
textual_is x (command.Format rows wrap) s h k = h
textual_is x (command.Table n) s h k = h
textual_is x (command.C1 n) s h k = h
textual_is x (command.FlashMode n) s h k = h
textual_is x command.StopConceal s h k = h
textual_is x (command.FullScreen n) s h k = h
textual_is x (command.FullRow n) s h k = h
textual_is x (command.Position r c) s h k = h
textual_is x (command.Protect on) s h k = h
textual_is x (command.DesignateC1 set) s h k = h
textual_is x (command.Graphic b) s h k = (sign_stands x b s h.0 h.1 k, h.0, h.1)
textual_is x (command.LockLeft g) s h k = h
textual_is x (command.Designate g set) s h k = h
textual_is x (command.Single g) s h k = h
textual_is x (command.Repeat n) s h k = h
textual_is x (command.AreaCreate a b) s h k = h
textual_is x (command.Implicit on) s h k = h
textual_is x _ s h k = absurd h

pub textual_spelled : (x : Context) (cs : List Command) → AreTextual cs → StandsIn x (spellings cs) → AreSpelled x cs
textual_spelled x [] h k = tt
textual_spelled x (c ∷ cs) h k = (
  textual_is x c (spellings cs) h.0 k,
  rw (textual_ends c h.0) refl,
  subst (λ (y : Context). AreSpelled y cs) (sym (textual_after x c h.0))
      (textual_spelled (with_mode x Text) cs h.1 (inl refl)),
)

textual_in_text : (x : Context) (cs : List Command) → AreTextual cs
    → context_after_all (with_mode x Text) cs ≡ with_mode x Text
textual_in_text x [] h = refl
textual_in_text x (c ∷ cs) h =
    ap (λ (y : Context). context_after_all y cs) (textual_after (with_mode x Text) c h.0) ∙ textual_in_text x cs h.1

pub textual_after_all : (x : Context) (cs : List Command) → AreTextual cs → StandsIn x (spellings cs)
    → context_after_all x cs ≡ with_mode x Text
textual_after_all x [] h (inl e) = ap (with_mode x) e
textual_after_all x [] h (inr e) = absurd cc
textual_after_all x (c ∷ cs) h k =
    ap (λ (y : Context). context_after_all y cs) (textual_after x c h.0) ∙ textual_in_text x cs h.1

pub textual-append : (a b : List Command) → AreTextual a → AreTextual b → AreTextual (a ++ b)
textual-append [] b h k = k
textual-append (c ∷ a) b h k = (h.0, textual-append a b h.1 k)

pub textual_each : (f : ℕ → List Command) (from n : ℕ) → ((i : ℕ) → from ≤ i → i < from + n → AreTextual (f i))
    → AreTextual (flat_map f (range_with_len from n))
textual_each f from zero h = tt
textual_each f from (suc n) h =
    textual-append (f from) (flat_map f (range_with_len (from + 1) n)) (h from (omega arith) (omega arith))
    (textual_each f (from + 1) n (λ i l m. h i (omega arith) (omega arith)))
