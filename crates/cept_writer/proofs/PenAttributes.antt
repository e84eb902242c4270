-- The attributes of a pen make it of the unset pen, class by class.
use Rattle.std.proofs.Common.{◌≡◌, ℕ, Bool, Option, Some, None, List, ◌++◌, refl, ◌∙◌}
use Rattle.cept_codes.specs.declared.attribute.Attr.{Attr}
use Rattle.cept_codes.specs.declared.attribute.Attr.TheVariants as attrs
use Rattle.cept_codes.specs.declared.attribute.Flash.{Flash}
use Rattle.cept_codes.specs.declared.attribute.Pen.{Pen}
use Rattle.cept_codes.specs.declared.attribute.Size.{Size}
use Rattle.cept_codes.specs.Attribute.{unset_pen}
use Rattle.cept_writer.specs.AttributeCommands.{attributes_of, class_attributes, pen_with_all}

-- one class more, set or not, where the pen doesn't set it yet
fore_set : (p : Pen) (x : Option ℕ) (more : List Attr)
    → pen_with_all (class_attributes (λ e. attrs.Fore e) x ++ more) (record p { fore = None })
    ≡ pen_with_all more (record p { fore = x })
fore_set p None more = refl
fore_set p (Some e) more = refl

back_set : (p : Pen) (x : Option ℕ) (more : List Attr)
    → pen_with_all (class_attributes (λ e. attrs.Back e) x ++ more) (record p { back = None })
    ≡ pen_with_all more (record p { back = x })
back_set p None more = refl
back_set p (Some e) more = refl

flash_set : (p : Pen) (x : Option Flash) (more : List Attr)
    → pen_with_all (class_attributes (λ f. attrs.Flash f) x ++ more) (record p { flash = None })
    ≡ pen_with_all more (record p { flash = x })
flash_set p None more = refl
flash_set p (Some f) more = refl

conceal_set : (p : Pen) (x : Option Bool) (more : List Attr)
    → pen_with_all (class_attributes (λ b. attrs.Conceal b) x ++ more) (record p { conceal = None })
    ≡ pen_with_all more (record p { conceal = x })
conceal_set p None more = refl
conceal_set p (Some b) more = refl

lined_set : (p : Pen) (x : Option Bool) (more : List Attr)
    → pen_with_all (class_attributes (λ b. attrs.Lined b) x ++ more) (record p { lined = None })
    ≡ pen_with_all more (record p { lined = x })
lined_set p None more = refl
lined_set p (Some b) more = refl

boxed_set : (p : Pen) (x : Option Bool) (more : List Attr)
    → pen_with_all (class_attributes (λ b. attrs.Boxed b) x ++ more) (record p { boxed = None })
    ≡ pen_with_all more (record p { boxed = x })
boxed_set p None more = refl
boxed_set p (Some b) more = refl

size_set : (p : Pen) (x : Option Size) (more : List Attr)
    → pen_with_all (class_attributes (λ s. attrs.Size s) x ++ more) (record p { size = None })
    ≡ pen_with_all more (record p { size = x })
size_set p None more = refl
size_set p (Some s) more = refl

invert_set : (p : Pen) (x : Option Bool)
    → pen_with_all (class_attributes (λ b. attrs.Invert b) x) (record p { invert = None })
    ≡ record p { invert = x }
invert_set p None = refl
invert_set p (Some b) = refl

pub attributes-all : (p : Pen) → pen_with_all (attributes_of p) unset_pen ≡ p
unfolding attributes_of
attributes-all p =
    let p1 : Pen = record unset_pen { fore = p.fore } in
    let p2 : Pen = record p1 { back = p.back } in
    let p3 : Pen = record p2 { flash = p.flash } in
    let p4 : Pen = record p3 { conceal = p.conceal } in
    let p5 : Pen = record p4 { lined = p.lined } in
    let p6 : Pen = record p5 { boxed = p.boxed } in
    let p7 : Pen = record p6 { size = p.size } in
    fore_set unset_pen p.fore _ ∙ back_set p1 p.back _ ∙ flash_set p2 p.flash _ ∙ conceal_set p3 p.conceal _
    ∙ lined_set p4 p.lined _ ∙ boxed_set p5 p.boxed _ ∙ size_set p6 p.size _ ∙ invert_set p7 p.invert
