use Rattle.rules.proofs.Blank.{new_means, new_kept}
use Rattle.rules.proofs.stored.answers.blank_steps.Goals as goal

pub returns : goal.returns
returns c = record { kept = new_kept; value = new_means }
