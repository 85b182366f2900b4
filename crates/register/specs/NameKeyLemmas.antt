-- Names are equal where their lengths and bytes are: what the law of names as keys needs. Assumes nothing.
use Rattle.std.specs.Prelude.{◌≡◌, ℕ, List}
use Rattle.std.proofs.Common.{◌∙◌, ap}
use Rattle.register.specs.declared.names.Name.{Name}

pub both : (a b : Name) → a.len ≡ b.len → a.bytes ≡ b.bytes → a ≡ b
both a b e f =
    let name : List ℕ → ℕ → Name = λ bytes len. record { bytes = bytes; len = len } in
    ap (λ bytes. name bytes a.len) f ∙ ap (name b.bytes) e
