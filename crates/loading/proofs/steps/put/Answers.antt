use Rattle.std.proofs.Common.{arith, rules}
use Rattle.loading.proofs.Celled.{put_row}
use Rattle.loading.proofs.steps.put.Goals as goal

pub returns : goal.returns
returns c k = put_row c.args.row.now c.args.column c.args.step (search (arith, rules)) k
