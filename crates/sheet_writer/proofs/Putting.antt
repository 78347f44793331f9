-- Bytes put into an output: one put after another is one put of both.
use Rattle.std.proofs.Common.{◌≡◌, ℕ, ◌<◌, List, ◌++◌, length, get_or, take, drop, sym, ap, ◌∙◌, subst, append_assoc, arith}
use Rattle.std.proofs.lemmas.List.{length-append, take-append-drop, drop-drop}
use Rattle.std.proofs.lemmas.List.Folds.{length-flat_map-take}
use Rattle.std.specs.List.{flat_map}
use Rattle.sheet_format.specs.Bytes.{overwritten}
use Rattle.sheet_writer.specs.declared.output.Output.{Output}
use Rattle.sheet_writer.specs.Puts.{written, left, Room, Puts}

-- the same bytes, and one part after another
pub puts_as : {before after : Output} {xs ys : List ℕ} → xs ≡ ys → Puts before xs after → Puts before ys after
puts_as {before} {after} e p = subst (λ bs. Puts before bs after) e p

pub then_puts : {before middle after : Output} {xs ys : List ℕ} → Puts before xs middle → Puts middle ys after → Puts before (xs ++ ys) after
then_puts {before} {middle} {after} {xs} {ys} p q = record {
  writes = q.writes ∙ ap (λ bs. bs ++ ys) p.writes ∙ append_assoc (written before) xs ys;
  leaves = q.leaves ∙ ap (drop (length ys)) p.leaves ∙ drop-drop (length ys) (length xs) (left before) ∙ ap (λ n. drop n (left before)) (sym (length-append xs ys));
  moves = omega (arith, p.moves, q.moves, length-append xs ys);
  keeps_length = q.keeps_length ∙ p.keeps_length;
  same_reference = q.same_reference ∙ p.same_reference;
}

pub room_as : {o : Output} {xs ys : List ℕ} → xs ≡ ys → Room o xs → Room o ys
room_as {o} e r = subst (Room o) e r

-- the bytes of the items before item `i` are put: there is room for those of item `i`, which is `x`
pub room_for : {X : Type 0} (f : X → List ℕ) (xs : List X) (i : ℕ) {before now : Output} → Puts before (flat_map f (take i xs)) now
    → (x : X) → i < length xs → x ≡ get_or xs i x → Room before (flat_map f xs) → Room now (f x)
room_for f xs i done x h is r =
    record { holds = omega (arith, r.holds, done.moves, done.keeps_length, length-flat_map-take f xs i x h, ap (λ y. length (f y)) is) }

-- what is put from the front of an output on stands at its front
pub put_over : {before after : Output} {bs out : List ℕ} → before.at ≡ 0 → before.bytes.now ≡ out → Puts before bs after → after.bytes.now ≡ overwritten bs out
put_over {before} {after} {bs} {out} e is p =
    sym (take-append-drop after.at after.bytes.now)
    ∙ (λ i. p.writes i ++ p.leaves i)
    ∙ (λ i. (take (e i) (is i) ++ bs) ++ drop (length bs) (drop (e i) (is i)))
