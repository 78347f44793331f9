-- Loops that write a text for each item of a list, or for each number that an iterator gives.
use Rattle.std.proofs.Common.{◌≡◌, ℕ, ◌+◌, ◌<◌, ◌≤◌, List, [], ◌∷◌, ◌++◌, map, length, get_or, drop, Option, Result, Ok, Err, sym, ap, ◌∙◌, append_assoc, append-nil, map-id}
use Rattle.std.proofs.Output.{has_written_append, has_written_of_eq}
use Rattle.std.proofs.lemmas.List.{at_drop_more, at_drop_all}
use Rattle.std.proofs.lemmas.Iterator.{YieldsList, items_from_drains}
use Rattle.std.proofs.lemmas.List.Folds.{flat_map-map}
use Rattle.std.specs.Fmt.{HasWritten, IsPlainFormatter}
use Rattle.std.specs.Iterator.{Drains}
use Rattle.std.specs.List.{flat_map}
use Rattle.std.specs.Result.{IsOk, OnOk}
use Rattle.std.specs.declared.fmt.Formatter.{Formatter}

-- what a function ensures on success, where it succeeded
pub at_ok : {T E P : Type 0} (r : Result T E) → OnOk r P → IsOk r → P
at_ok (Ok x) p ok = p
at_ok (Err e) p ok = cc

module _ {W : Type 0} (took : W → List ℕ → W → Type 0) where
  -- what was written from f to g, with what is yet to be written, is the whole
  abbrev pub Telling : Formatter W → List ℕ → List ℕ → Formatter W → Type 0
  Telling f whole rest g = IsPlainFormatter f → (done : List ℕ) × HasWritten took f done g × (done ++ rest ≡ whole)

  -- At place i the texts F of the items from i on are yet to be written. A loop writes the text of the item at
  -- i, and the others are G of the items past i.
  pub tells_more : {X : Type 0} (f g h : Formatter W) (whole line : List ℕ) (F G : List X → List ℕ) (xs : List X) (i : ℕ) (d : X)
      → i < length xs → F (get_or xs i d ∷ drop (i + 1) xs) ≡ line ++ G (drop (i + 1) xs)
      → Telling f whole (F (drop i xs)) g → (IsPlainFormatter g → HasWritten took g line h) → Telling f whole (G (drop (i + 1) xs)) h
  tells_more f g h whole line F G xs i d within step so_far wrote plain =
      let now = so_far plain in (
        now.0 ++ line,
        has_written_append took f now.0 g line h now.1 (wrote now.1.plain),
        append_assoc now.0 line (G (drop (i + 1) xs)) ∙ ap (λ w. now.0 ++ w) (sym step ∙ sym (at_drop_more F xs i d within)) ∙ now.2,
      )

  -- past the last item nothing is left to write, and the whole stands after what was written before the loop
  pub tells_all : {X : Type 0} (e f g : Formatter W) (front whole : List ℕ) (F : List X → List ℕ) (xs : List X) (i : ℕ)
      → length xs ≤ i → F [] ≡ [] → HasWritten took e front f → Telling f whole (F (drop i xs)) g → HasWritten took e (front ++ whole) g
  tells_all e f g front whole F xs i past none before so_far =
      let now = so_far before.plain in
      has_written_append took e front f whole g before
      (has_written_of_eq took f now.0 whole g (sym (append-nil now.0) ∙ ap (λ w. now.0 ++ w) (sym (at_drop_all F xs i past ∙ none)) ∙ now.2) now.1)

  -- Where the texts of the numbers that came were written, and the iterator gives a number of each item of a
  -- list, the texts of those numbers were written.
  pub tells_each : {S X : Type 0} {steps : S → Option ℕ → S → Type 0} {s : S} (text : ℕ → List ℕ) (f g : Formatter W)
      → (ns : List ℕ) × Drains steps s ns × (IsPlainFormatter f → HasWritten took f (flat_map text ns) g)
      → (number : X → ℕ) (xs : List X) → YieldsList steps (λ n. n) s (map number xs) → IsPlainFormatter f
      → HasWritten took f (flat_map (λ x. text (number x)) xs) g
  tells_each text f g came number xs gives plain =
      let drained = came.1 in
      let all = items_from_drains came.0 (drained.1.0, drained.1.1, λ _. (drained.0, drained.1.2)) gives in
      has_written_of_eq took f (flat_map text came.0) _ g
      (ap (flat_map text) (sym (map-id came.0) ∙ all) ∙ flat_map-map text number xs) (came.2 plain)
