-- Looks with the same fields end a line in the same way.
use Rattle.std.proofs.Common.{◌≡◌, refl, ap, arith}
use Rattle.cept_codes.specs.declared.look.Look.{Look}
use Rattle.cept_codes.specs.declared.look.Paint.{Paint}
use Rattle.cept_codes.specs.declared.look.Paint.TheVariants as paints
use Rattle.cept_codes.specs.Look.{IsValidLook, IsValidPaint}
use Rattle.cept_report.specs.declared.ending.Fields.{Fields}
use Rattle.cept_report.specs.Ending.{ending_text}
use Rattle.cept_report.specs.inside.Ending.{fields_of, paint_word}
use Rattle.cept_report.specs.Text.{paint_text}

-- a paint is known by its number
paint_same : (p q : Paint) → IsValidPaint p → IsValidPaint q → paint_word p ≡ paint_word q
    → paint_text p ≡ paint_text q
paint_same (paints.Ink a) (paints.Ink b) v w e =
    let r : a.r ≡ b.r = omega (arith, v.r, v.g, v.b, w.r, w.g, w.b, e) in
    let g : a.g ≡ b.g = omega (arith, v.r, v.g, v.b, w.r, w.g, w.b, e) in
    let blue : a.b ≡ b.b = omega (arith, v.r, v.g, v.b, w.r, w.g, w.b, e) in
    rw r (rw g (rw blue refl))
paint_same (paints.Ink a) paints.Video v w e = absurd (omega (arith, v.r, v.g, v.b, e))
paint_same paints.Video (paints.Ink b) v w e = absurd (omega (arith, w.r, w.g, w.b, e))
paint_same paints.Video paints.Video v w e = refl

pub ending_same : (l m : Look) → IsValidLook l → IsValidLook m → fields_of l ≡ fields_of m
    → ending_text l ≡ ending_text m
ending_same l m v w e =
    let h : l.h ≡ m.h = ap (λ (f : Fields). f.part.h) e in
    let width : l.w ≡ m.w = ap (λ (f : Fields). f.part.w) e in
    let dy : l.dy ≡ m.dy = ap (λ (f : Fields). f.part.dy) e in
    let dx : l.dx ≡ m.dx = ap (λ (f : Fields). f.part.dx) e in
    let fore : paint_text l.fore ≡ paint_text m.fore =
    paint_same l.fore m.fore v.fore w.fore (ap (λ (f : Fields). f.fore) e) in
    let back : paint_text l.back ≡ paint_text m.back =
    paint_same l.back m.back v.back w.back (ap (λ (f : Fields). f.back) e) in
    let flash : l.flash ≡ m.flash = ap (λ (f : Fields). f.style.flash) e in
    let conceal : l.conceal ≡ m.conceal = ap (λ (f : Fields). f.style.conceal) e in
    let lined : l.lined ≡ m.lined = ap (λ (f : Fields). f.style.lined) e in
    let boxed : l.boxed ≡ m.boxed = ap (λ (f : Fields). f.style.boxed) e in
    rw h (rw width (rw dy (rw dx (rw fore (rw back (rw flash (rw conceal (rw lined (rw boxed refl)))))))))
