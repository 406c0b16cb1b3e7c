-- Lines that are joined one by one. Assumes nothing.
use Rattle.std.proofs.Common.{◌≡◌, ℕ, ◌+◌, ◌<◌, List, [], ◌∷◌, ◌++◌, length, get_or, take, sym, refl, ap, ◌∙◌, append_assoc}
use Rattle.std.proofs.lemmas.List.{take_more}
use Rattle.watch_lib.specs.declared.lines.Line.{Line}
use Rattle.watch_lib.specs.Lines.{line_text, lines_text}

pub text_append : (ls ms : List Line) → lines_text (ls ++ ms) ≡ lines_text ls ++ lines_text ms
text_append [] ms = refl
text_append (l ∷ ls) ms =
    ap (λ t. line_text l ++ 10 ∷ t) (text_append ls ms) ∙ sym (append_assoc (line_text l) (10 ∷ lines_text ls) (lines_text ms))

-- one line more
pub text_more : (ls : List Line) (k : ℕ) (d : Line) (old new : List ℕ) → k < length ls
    → old ≡ lines_text (take k ls) → new ≡ old ++ (line_text (get_or ls k d) ++ 10 ∷ []) → new ≡ lines_text (take (k + 1) ls)
text_more ls k d old new h inv e =
    e ∙ ap (λ t. t ++ (line_text (get_or ls k d) ++ 10 ∷ [])) inv
    ∙ sym (text_append (take k ls) (get_or ls k d ∷ [])) ∙ ap lines_text (sym (take_more ls k d h))
