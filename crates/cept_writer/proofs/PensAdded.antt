-- A pen's commands, class by class.
use Rattle.std.proofs.Common.{◌≡◌, ℕ, List, [], ◌∷◌, ◌++◌, Option, Some, None, refl, sym, ◌∙◌, ap, append_assoc}
use Rattle.std.specs.Prelude.{IsSomeAnd, MatchOption}
use Rattle.cept_codes.specs.declared.attribute.Attr.{Attr}
use Rattle.cept_codes.specs.declared.command.Command.{Command}
use Rattle.cept_writer.specs.AttributeCommands.{attribute_commands, attributes_commands, class_attributes}

-- attributes and others after them
pub attributes_joined : (code : ℕ → Command) (cs bs : List Attr)
    → attributes_commands code (cs ++ bs) ≡ attributes_commands code cs ++ attributes_commands code bs
attributes_joined code [] bs = refl
attributes_joined code (a ∷ cs) bs =
    ap (λ l. attribute_commands code a ++ l) (attributes_joined code cs bs)
    ∙ sym (append_assoc (attribute_commands code a) (attributes_commands code cs) (attributes_commands code bs))

-- the attribute that a function makes of a class, where the class is set
pub set_is : {X : Type 0} {Makes : X → Attr → Type 0} (attr : X → Attr) (class : Option X) (set : Option Attr)
    → ((x : X) (a : Attr) → Makes x a → a ≡ attr x)
    → MatchOption class (set ≡ None) (λ x. IsSomeAnd set (λ a. Makes x a))
    → class_attributes (λ a. a) set ≡ class_attributes attr class
set_is attr None set makes is = ap (λ s. class_attributes (λ a. a) s) is
set_is attr (Some x) None makes is = absurd is
set_is attr (Some x) (Some a) makes is = ap (λ b. b ∷ []) (makes x a is)

-- a class was added where it is set, and then others
pub class_added : {X : Type 0} (attr : X → Attr) (class : Option X) (set : Option Attr) (code : ℕ → Command)
    (old between new : List Command) (bs : List Attr)
    → class_attributes (λ a. a) set ≡ class_attributes attr class
    → between ≡ old ++ attributes_commands code (class_attributes (λ a. a) set)
    → new ≡ between ++ attributes_commands code bs
    → new ≡ old ++ attributes_commands code (class_attributes attr class ++ bs)
class_added attr class set code old between new bs is first more =
    let cs = class_attributes attr class in
    more
    ∙ ap (λ l. l ++ attributes_commands code bs) (first ∙ ap (λ c. old ++ attributes_commands code c) is)
    ∙ append_assoc old (attributes_commands code cs) (attributes_commands code bs)
    ∙ ap (λ l. old ++ l) (sym (attributes_joined code cs bs))

-- the last class was added where it is set
pub last_added : {X : Type 0} (attr : X → Attr) (class : Option X) (set : Option Attr) (code : ℕ → Command)
    (old new : List Command) → class_attributes (λ a. a) set ≡ class_attributes attr class
    → new ≡ old ++ attributes_commands code (class_attributes (λ a. a) set)
    → new ≡ old ++ attributes_commands code (class_attributes attr class)
last_added attr class set code old new is last =
    last ∙ ap (λ c. old ++ attributes_commands code c) is
