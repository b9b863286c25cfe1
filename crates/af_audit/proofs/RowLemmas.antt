-- Members of a row, written one after another.
use Rattle.std.proofs.Common.{◌≡◌, ◌∙◌, sym, ap, List, [], ◌∷◌, ◌++◌, Bool, true, append_assoc, append-nil}
use Rattle.serde_json.specs.Written.{compact_text}
use Rattle.af_ops.specs.Fields.{Field}
use Rattle.af_ops.specs.Texts.{Adds, Filling, front, member_text}

front-append : (later : Bool) (f : Field) (fs gs : List Field) → front later (f ∷ (fs ++ gs)) ≡ front later (f ∷ fs) ++ front true gs
unfolding front
front-append later f [] gs = ap (λ s. s ++ front true gs) (sym (append-nil (member_text later f.0 (compact_text f.1))))
front-append later f (g ∷ fs) gs =
    ap (λ s. member_text later f.0 (compact_text f.1) ++ s) (front-append true g fs gs)
    ∙ sym (append_assoc (member_text later f.0 (compact_text f.1)) (front true (g ∷ fs)) (front true gs))

-- members after members
pub more : {later : Bool} {a b c : Filling} {f : Field} {fs gs : List Field} → Adds later a b (f ∷ fs) → Adds true b c gs → Adds later a c (f ∷ (fs ++ gs))
more {later = later} {a = a} {f = f} {fs = fs} {gs = gs} one next = record {
  text =
      next.text ∙ ap (λ s. s ++ front true gs) one.text ∙ append_assoc a.items (front later (f ∷ fs)) (front true gs)
      ∙ ap (λ s. a.items ++ s) (sym (front-append later f fs gs));
  room = next.room;
}
