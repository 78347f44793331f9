use Rattle.std.proofs.Common.{◌≡◌, List, ℕ, ◌++◌, codes, decimal, refl, append_assoc, arith}
use Rattle.sheet.specs.Faults.{refusal_number}
use Rattle.sheet.specs.Words.{refusal_words}
use Rattle.report.proofs.whole.report_refusal.Goals as goal

-- the line of a fault, and the end of its line
line_parts : (a b c d e f g words end : List ℕ)
    → (a ++ (b ++ (c ++ (d ++ (e ++ (f ++ (g ++ words))))))) ++ end ≡ a ++ (b ++ (c ++ (d ++ (e ++ (f ++ (g ++ (words ++ end)))))))
line_parts a b c d e f g words end = simp append_assoc

pub returns : goal.returns
returns c =
    let fault = c.args.fault in
    let h = line_parts (codes "refused: layer ") (decimal 3) (codes ", number ") (decimal (refusal_number fault.refusal)) (codes ", place ") (decimal fault.place) (codes ": ") (refusal_words fault.refusal) (codes "\n") in
    let k = c.in_ok-text.ensures.ok in
    record { says = grind (h, k, arith); tells = refl }
