-- Answers as they are written.
use Rattle.std.specs.Prelude.{ℕ, List, ◌++◌, Some, None, codes, decimal}
use Rattle.expectations.specs.Words.{of_verdict, of_standing, notice_text, tally_text}
use Rattle.answers.specs.declared.types.Answer.{Answer}
use Rattle.answers.specs.declared.types.Answer.TheVariants.{Number, Reads, Stands, Counts, Tells}

-- the bytes of an answer
abbrev pub answer_text : Answer → List ℕ
answer_text (Number n) = codes "state=" ++ decimal n
answer_text (Reads v) = codes "reads=" ++ (of_verdict v).word
answer_text (Stands w) = codes "stands=" ++ ((of_standing w).word ++ (codes " date=" ++ decimal (of_standing w).date))
answer_text (Counts t) = tally_text t
answer_text (Tells (Some x)) = notice_text x
answer_text (Tells None) = codes "no more"
