-- What spliced memory does is what the memory below does that holds the cell.
use Rattle.std.proofs.Common.{◌≡◌, ℕ, ◌+◌, ◌-◌, ◌<◌, ◌≤◌, min, Bool, true, cond, List, ◌++◌, length, set, Ok, Result, sym, refl, ap, ◌∙◌, arith}
use Rattle.std.proofs.lemmas.Bool.Decides.{nat_tests}
use Rattle.std.proofs.lemmas.List.{length-append, get_or_append_left, get_or-append_right, set-append_left, set-append_right}
use Rattle.memory.specs.declared.cell.Cell.{Cell}
use Rattle.memory.specs.declared.cell.Cell.TheVariants.{Value, Id}
use Rattle.memory.specs.declared.fault.MemoryFault.{MemoryFault}
use Rattle.memory.specs.declared.limits.Limits.{Limits}
use Rattle.memory.specs.Cells.{same}
use Rattle.memory.specs.Rules.{id_zero, cell_at, first_cells, fitting, smaller_limits, load_answer, store_answer, store_after, cas_answer, cas_after}
use Rattle.memory.proofs.First.{first_length, first_at}
use Rattle.memory.proofs.Admitting.{load_yes, store_yes, cas_told}
use Rattle.memory.proofs.Tables.{Stored, Swapped, at_cond, stored, swapped}

-- what fits both limits fits each
fits_front : {V : Type 0} (code : V → ℕ) (l m : Limits) (c : Cell V) → fitting code (smaller_limits l m) c ≡ true → fitting code l c ≡ true
fits_front code l m (Value x) h = grind (arith, nat_tests)
fits_front code l m (Id i) h = grind (arith, nat_tests)

fits_back : {V : Type 0} (code : V → ℕ) (l m : Limits) (c : Cell V) → fitting code (smaller_limits l m) c ≡ true → fitting code m c ≡ true
fits_back code l m (Value x) h = grind (arith, nat_tests)
fits_back code l m (Id i) h = grind (arith, nat_tests)

module _ {V : Type 0} (xs ys : List (Cell V)) where
  pub spliced_length : length (first_cells (xs ++ ys)) ≡ min 65535 (length xs + length ys)
  spliced_length = first_length (xs ++ ys) ∙ ap (min 65535) (length-append xs ys)

  module _ (i : ℕ) (inside : i < length (first_cells (xs ++ ys))) where
    get_front : i < length xs → cell_at (first_cells (xs ++ ys)) i ≡ cell_at xs i
    get_front h = first_at (xs ++ ys) i inside ∙ get_or_append_left xs ys id_zero i h

    get_back : (k : ℕ) → k ≡ length xs → k ≤ i → cell_at (first_cells (xs ++ ys)) i ≡ cell_at ys (i - k)
    get_back k e h = first_at (xs ++ ys) i inside ∙ get_or-append_right xs ys k i id_zero (sym e) h

    set_front : (c : Cell V) → i < length xs → set xs i c ++ ys ≡ set (xs ++ ys) i c
    set_front c h = sym (set-append_left xs ys i c h)

    set_back : (k : ℕ) → k ≡ length xs → (c : Cell V) → k ≤ i → xs ++ set ys (i - k) c ≡ set (xs ++ ys) i c
    set_back k e c h = sym (set-append_right xs ys k i c (sym e) h)

    pub load_front : i < length xs → load_answer xs i ≡ load_answer (first_cells (xs ++ ys)) i
    load_front h = load_yes xs i h ∙ ap Ok (sym (get_front h)) ∙ sym (load_yes (first_cells (xs ++ ys)) i inside)

    pub load_back : (k : ℕ) → k ≡ length xs → k ≤ i → load_answer ys (i - k) ≡ load_answer (first_cells (xs ++ ys)) i
    load_back k e h = load_yes ys (i - k) (omega (arith, spliced_length)) ∙ ap Ok (sym (get_back k e h)) ∙ sym (load_yes (first_cells (xs ++ ys)) i inside)

    module _ (code : V → ℕ) (l m : Limits) (c : Cell V) (fit : fitting code (smaller_limits l m) c ≡ true) where
      -- a Store of the whole, answered r, from that of the part that holds the cell: `part` makes the whole of the part
      stored_part : (k : Limits) (cs : List (Cell V)) (j : ℕ) (part : List (Cell V) → List (Cell V)) → j < length cs → fitting code k c ≡ true → part (set cs j c) ≡ set (xs ++ ys) i c → {r : Result (Unit {0}) MemoryFault} {zs : List (Cell V)} → r ≡ store_answer code k cs j c → zs ≡ store_after code k cs j c → Stored code (smaller_limits l m) (xs ++ ys) i c r (part zs)
      stored_part k cs j part h f e said left =
          let low = store_yes code k cs j c h f in
          stored code (smaller_limits l m) (xs ++ ys) i c inside fit (said ∙ low.0) (ap part (left ∙ low.1) ∙ e)

      pub store_front : i < length xs → {r : Result (Unit {0}) MemoryFault} {zs : List (Cell V)} → r ≡ store_answer code l xs i c → zs ≡ store_after code l xs i c → Stored code (smaller_limits l m) (xs ++ ys) i c r (zs ++ ys)
      store_front h said left = stored_part l xs i (λ x. x ++ ys) h (fits_front code l m c fit) (set_front c h) said left

      pub store_back : (k : ℕ) → k ≡ length xs → k ≤ i → {r : Result (Unit {0}) MemoryFault} {zs : List (Cell V)} → r ≡ store_answer code m ys (i - k) c → zs ≡ store_after code m ys (i - k) c → Stored code (smaller_limits l m) (xs ++ ys) i c r (xs ++ zs)
      store_back k e h said left = stored_part m ys (i - k) (λ x. xs ++ x) (omega (arith, spliced_length)) (fits_back code l m c fit) (set_back k e c h) said left

      -- and a CAS
      swapped_part : (old : Cell V) (k : Limits) (cs : List (Cell V)) (j : ℕ) (part : List (Cell V) → List (Cell V)) → part cs ≡ xs ++ ys → j < length cs → fitting code k c ≡ true → cell_at (first_cells (xs ++ ys)) i ≡ cell_at cs j → part (set cs j c) ≡ set (xs ++ ys) i c → {r : Result Bool MemoryFault} {zs : List (Cell V)} → r ≡ cas_answer code k cs j old c → zs ≡ cas_after code k cs j old c → Swapped code (smaller_limits l m) (xs ++ ys) i old c r (part zs)
      swapped_part old k cs j part p h f g e said left =
          let low = cas_told code k cs j c h f old in
          let b = same code (cell_at cs j) old in
          swapped code (smaller_limits l m) (xs ++ ys) i c inside fit old b (ap (λ x. same code x old) g) (said ∙ low.0) (ap part (left ∙ low.1) ∙ at_cond part b (set cs j c) cs ∙ ap (λ x. cond b x (part cs)) e ∙ ap (cond b (set (xs ++ ys) i c)) p)

      pub cas_front : (old : Cell V) → i < length xs → {r : Result Bool MemoryFault} {zs : List (Cell V)} → r ≡ cas_answer code l xs i old c → zs ≡ cas_after code l xs i old c → Swapped code (smaller_limits l m) (xs ++ ys) i old c r (zs ++ ys)
      cas_front old h said left = swapped_part old l xs i (λ x. x ++ ys) refl h (fits_front code l m c fit) (get_front h) (set_front c h) said left

      pub cas_back : (old : Cell V) (k : ℕ) → k ≡ length xs → k ≤ i → {r : Result Bool MemoryFault} {zs : List (Cell V)} → r ≡ cas_answer code m ys (i - k) old c → zs ≡ cas_after code m ys (i - k) old c → Swapped code (smaller_limits l m) (xs ++ ys) i old c r (xs ++ zs)
      cas_back old k e h said left = swapped_part old m ys (i - k) (λ x. xs ++ x) refl (omega (arith, spliced_length)) (fits_back code l m c fit) (get_back k e h) (set_back k e c h) said left
