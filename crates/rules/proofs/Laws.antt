-- An automaton from steps is lawful exactly when its numbers are in range and its steps are allowed.
use Rattle.std.proofs.Common.{◌≡◌, ℕ, ◌+◌, Some, arith}
use Rattle.std.proofs.lemmas.Bool.Decides.{nat_tests}
use Rattle.two_way.specs.Automaton.{Lawful}
use Rattle.rules.specs.Steps.{automaton, Sizes, Kept}

module _ (k m s t r : ℕ) (step : ℕ → ℕ → ℕ × ℕ) where
  pub kept_lawful : Sizes k m s t r → Kept k m t r step → Lawful (automaton k m s t r step)
  kept_lawful z kept = record {
    states_low = z.0.0;
    states_high = z.0.1;
    letters_low = z.0.2;
    letters_high = z.0.3;
    start_in = z.1.0;
    accept_in = z.1.1;
    reject_in = z.1.2;
    apart = z.1.3;
    inside = λ q c h h' e. grind (arith, nat_tests);
    past_states = λ q c h. grind (arith, nat_tests);
    past_columns = λ q c h. grind (arith, nat_tests);
    state_in = λ q c p d e. grind (arith, nat_tests, kept q c);
    direction_in = λ q c p d e. grind (arith, nat_tests, kept q c);
    at_left = λ q p d e. grind (arith, nat_tests, kept q m);
    at_right = λ q p d e. grind (arith, nat_tests, kept q (m + 1));
    accept_keeps = record { on = λ c h. grind (arith, nat_tests, kept t c); at_right = grind (arith, nat_tests, kept t (m + 1)) };
    reject_keeps = record { on = λ c h. grind (arith, nat_tests, kept r c); at_right = grind (arith, nat_tests, kept r (m + 1)) };
  }

  pub lawful_kept : Lawful (automaton k m s t r step) → Kept k m t r step
  lawful_kept l q c h =
      let p = (step q c).0 in
      let d = (step q c).1 in
      let e : (automaton k m s t r step).next q c ≡ Some (p, d) = grind (arith, nat_tests) in
      grind (
        arith,
        nat_tests,
        l.state_in q c p d e,
        l.direction_in q c p d e,
        l.at_left q p d,
        l.at_right q p d,
        l.accept_keeps.on c,
        l.accept_keeps.at_right,
        l.reject_keeps.on c,
        l.reject_keeps.at_right,
      )
