use Rattle.textrecord.proofs.Walks.{lists_lines_lem, one_list}
use Rattle.textrecord.proofs.laws.lists_lines.Goals as goal

pub returns : goal.returns
returns c = record { lists = lists_lines_lem; one = one_list }
