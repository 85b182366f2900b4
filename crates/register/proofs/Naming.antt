-- The bytes of a name. Assumes nothing.
use Rattle.std.proofs.Common.{◌≡◌, ℕ, eqb, List, length, take, sym, refl, ap, ◌∙◌}
use Rattle.std.proofs.lemmas.List.{take_at}
use Rattle.std.proofs.lemmas.Bool.{and_parts, and_from, eqb-true, eq-eqb}
use Rattle.std.proofs.lemmas.Slice.Eq.{bytes_eq-Decides}
use Rattle.std.proofs.lemmas.Bool.Decides.{same_from_decides}
use Rattle.std.specs.Str.{bytes_eq}
use Rattle.register.specs.Names.{as_name, alike_names}

-- two names are alike exactly when their bytes are
pub alike_as_names : (a b : List ℕ) → alike_names (as_name a) (as_name b) ≡ bytes_eq a b
alike_as_names a b =
    let d = bytes_eq-Decides (as_name a).bytes (as_name b).bytes in
    same_from_decides _ _ (
      (λ t.
          let p = and_parts (eqb (length a) (length b)) (bytes_eq (as_name a).bytes (as_name b).bytes) t in
          let long : length b ≡ length a = sym (eqb-true (length a) (length b) p.0) in
          sym (take_at a _ (length a) refl) ∙ (ap (take (length a)) (d.0 p.1) ∙ take_at b _ (length a) long)),
      (λ e. and_from (eqb (length a) (length b)) (bytes_eq (as_name a).bytes (as_name b).bytes) (eq-eqb (length a) (length b) (ap length e)) (d.1 (ap (λ (bs : List ℕ). (as_name bs).bytes) e))),
    )
    (bytes_eq-Decides a b)
