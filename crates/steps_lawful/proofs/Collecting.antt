-- SNAPSHOT, alone or in a KCSS: each step of the code is a line.
use Rattle.std.proofs.Common.{◌≡◌, ℕ, zero, suc, ◌+◌, ◌<◌, ◌≤◌, Bool, true, false, cond, ltb, List, [], ◌∷◌, length, drop, Some, None, Option, refl, ap, ◌∙◌, inl, inr, arith}
use mathlib.Core.Option as maybe
use Rattle.std.specs.Option.{option_map}
use Rattle.std.proofs.lemmas.Bool.{lt-ltb, le-ltb, le-leb, cases_lt, cases_Bool}
use Rattle.memory.specs.declared.cell.Cell.{Cell}
use Rattle.memory.specs.declared.cell.Cell.TheVariants.{Value, Id}
use Rattle.memory.specs.declared.cell.TaggedId.{TaggedId}
use Rattle.operation.specs.declared.kind.OperationKind.{OperationKind}
use Rattle.operation.specs.declared.kind.OperationKind.TheVariants.{Snapshot}
use Rattle.phases.specs.declared.name.Line.{Line}
use Rattle.phases.specs.declared.name.Line.TheVariants.{S6, S9}
use Rattle.phases.specs.declared.phase.Phase.{Phase}
use Rattle.phases.specs.declared.phase.ReadPhase.{ReadPhase}
use Rattle.phases.specs.declared.phase.Phase.TheVariants.{FirstId, FirstCollect, SecondCollect, SecondId}
use Rattle.phases.specs.declared.records.Operand.{Operand}
use Rattle.phases.specs.declared.records.Place.TheVariants.{Tid}
use Rattle.phases.specs.declared.records.Access.{Access}
use Rattle.phases.specs.declared.records.Access.TheVariants.{Load}
use Rattle.phases.specs.declared.records.Seen.{Seen}
use Rattle.phases.specs.declared.records.Seen.TheVariants.{Found}
use Rattle.phases.specs.declared.turn.Finding.TheVariants.{First, Second}
use Rattle.phases.specs.declared.turn.Finding.TheVariants as finding
use Rattle.lines.specs.Accesses.{with_place, read_access}
use Rattle.lines.specs.Advancing.{undisturbed}
use Rattle.lines.specs.Comparing.{operand_at, all_still}
use Rattle.lines.specs.Suiting.{snapshot_from, collects_from}
use Rattle.lines.specs.Recording.{at_operand, put_first, put_second, put_first_id, put_second_id}
use Rattle.protocol.specs.World.{World, changed}
use Rattle.protocol.specs.Events.Event.{look}
use Rattle.protocol.specs.Operations.Answer.{values}
use Rattle.protocol.specs.Phases as relation
use Rattle.protocol.specs.Phases.{Row, Rows, Purpose, Same, with_id_second}
use Rattle.protocol.specs.Phases.Phase.{resting, first_id, first_collect, second_collect, second_id}
use Rattle.protocol.specs.Phases.Process.{proc}
use Rattle.protocol.specs.Lines.Line.{s6_on, s6_end, c1_on, c1_got, c1_end, c2_on, c2_got, c2_end, s9_on, s9_again, s9_solo, s9_inside}
use Rattle.protocol.specs.Sound.{CellsSound}
use Rattle.protocol.proofs.Changes.{clash}
use Rattle.std.specs.Option.{MatchOption}
use Rattle.line_views.specs.View.{Cells, cells_of, link_after}
use Rattle.line_views.specs.View.Running.{runs}
use Rattle.line_views.specs.Steps.{Makes, Goes, Steps}
use Rattle.steps_lawful.specs.Showing.{read_phase, Agree, Fits, Collects, CollectPhase, Shows}
use Rattle.steps_lawful.specs.Showing.Collects.{collects_snapshot, collects_kcss}
use Rattle.steps_lawful.specs.Showing.CollectPhase.{at_s6, at_first, at_second, at_s9}
use Rattle.steps_lawful.specs.Showing.Shows.{shows_collect, shows_swap}
use Rattle.steps_lawful.proofs.Performing.{Stuck}
use Rattle.lines.proofs.Operands.{length_at}
use Rattle.steps_lawful.proofs.Fitting.{refit, fewer, with_first_agrees, with_second_agrees, with_first_id_agrees, with_second_id_agrees}
use Rattle.steps_lawful.proofs.Comparing.{same_rows, moved_rows}
use Rattle.steps_lawful.proofs.Asking.{kept_asked, asked_snapshot, collected_snapshot}
use Rattle.steps_lawful.proofs.Reading.{ReadBy, by_reading}
use Rattle.steps_lawful.proofs.Reading.ReadBy.{goes_on, ends, sticks}

module _ {V : Type 0} where
  -- its access is at the location of operand j
  opened : {kind : OperationKind} {ops : List (Operand V)} {new : Option V} {m : ℕ} {l : maybe.Option ℕ} {F : Purpose V} → Collects kind ops new m l F
      → (i j a : ℕ) (o : Operand V) → j ≡ snapshot_from kind + i → operand_at ops j ≡ Some o → a ≡ o.location → (g : ℕ → Line × Access V)
      → cond (collects_from kind j) (with_place (operand_at ops 0) (λ _. with_place (operand_at ops j) (λ a. Some (g a)))) None ≡ Some (g a)
  opened (collects_snapshot {operands = []}) i j a o at e s g = clash (cc)
  opened (collects_snapshot {operands = x ∷ rest}) i j a o at e s g = rw (e, s) refl
  opened (collects_kcss ex fi) i j a o at e s g = rw (le-leb 1 j (omega arith), e, s) refl

  -- what operand j records leaves what it is made for
  still_collects : {kind : OperationKind} {ops : List (Operand V)} {new : Option V} {m : ℕ} {l : maybe.Option ℕ} {F : Purpose V} → Collects kind ops new m l F
      → (i j : ℕ) → j ≡ snapshot_from kind + i → (g : Operand V → Operand V) → Collects kind (at_operand j g ops) new m l F
  still_collects collects_snapshot i j at g = collects_snapshot
  still_collects (collects_kcss ex fi) i zero at g = absurd (omega arith)
  still_collects (collects_kcss ex fi) i (suc j) at g = collects_kcss ex fi

  -- a tid that is a value is not sound
  no_tid : {w : World V} {v : V} (a : ℕ) → w.tid a ≡ Value v → CellsSound w → ⊥
  no_tid a e sound = let z = sound.tids a in let q = z.1 in clash (cc)

  -- a SNAPSHOT leaves the link
  kept_link : (ops : List (Operand V)) (l : maybe.Option ℕ) → l ≡ link_after Snapshot ops l
  kept_link [] l = refl
  kept_link (o ∷ rest) l = refl

module _ {V : Type 0} (N : Type 0) (t p n b : ℕ) (w : World V) (rows : Rows V) (i c : ℕ) (f : Bool) (id : TaggedId) where
  -- the rows with what S9 found in the tid of row i
  abbrev rows9 : Rows V
  rows9 = changed rows i (with_id_second (rows i) (w.tid (rows i).location))

  -- S9 of the last row, if nothing was disturbed: it ends a SNAPSHOT, and in a KCSS 11 follows.
  undisturbed_goes : (l : maybe.Option ℕ) (kind : OperationKind) (ops : List (Operand V)) (new : Option V) (m : ℕ) (F : Purpose V) (k j : ℕ)
      → Collects kind ops new m l F → i < k → k ≤ suc i → j ≡ snapshot_from kind + i
      → Fits kind k k k rows9 (at_operand j (put_second_id id) ops) → Same rows9 k
      → MatchOption (undisturbed kind) N
      (Makes Shows t p n b l w (second_id F rows k c i) (cells_of w) (runs kind ops new (SecondId j) m c f) (finding.SecondId j id))
  undisturbed_goes l _ ops new m _ k j collects_snapshot h q at fits same = (
    look p,
    _,
    _,
    s9_solo q refl same,
    refl,
    (
      _,
      _,
      ap (λ (x : maybe.Option ℕ). proc n x b resting) (kept_link ops l),
      kept_asked id j ops new ∙ asked_snapshot (at_operand j (put_second_id id) ops) new (omega arith) fits,
      ap (λ (list : Option (List V)). option_map (λ list. values list) list) (collected_snapshot fits),
      refl,
    ),
  )
  undisturbed_goes _ _ _ _ _ _ k zero (collects_kcss ex fi) h q at fits same = absurd (omega arith)
  undisturbed_goes _ _ _ _ _ _ zero (suc j) (collects_kcss ex fi) h q at fits same = absurd (omega arith)
  undisturbed_goes _ _ _ _ _ _ (suc k) (suc j) (collects_kcss ex fi) h q at fits same =
      (look p, _, _, s9_inside q refl same, refl, (_, refl, refl, shows_swap ex fi fits refl))

module _ {V : Type 0} (code : V → ℕ) (one : (x y : V) → code x ≡ code y → x ≡ y) (N : Type 0) (t p n b : ℕ) (l : maybe.Option ℕ) (w : World V)
    (kind : OperationKind) (ops : List (Operand V)) (new : Option V) (F : Purpose V) (rows : Rows V) (k i j m c : ℕ) (f : Bool)
    (made : Collects kind ops new m l F) (h : i < k) (at : j ≡ snapshot_from kind + i) (o : Operand V) (found_at : operand_at ops j ≡ Some o) where
  abbrev Going : Phase V → relation.Phase V → Seen V → Cells V → Type 0
  Going phase = Goes Shows t p n b l code N w (runs kind ops new phase m c f)

  -- the operand in turn agrees with its row
  agrees : {x y : ℕ} → Fits kind k x y rows ops → Agree kind x y i o (rows i)
  agrees fits = fits.each i o (rw (← at) found_at)

  -- the code's test for another operand, after the one in turn was changed
  more : (g : Operand V → Operand V) → length ops ≡ snapshot_from kind + k → suc i < k → ltb (j + 1) (length (at_operand j g ops)) ≡ true
  more g count q = lt-ltb (j + 1) (length (at_operand j g ops)) (omega (arith, length_at g j ops))

  last : (g : Operand V → Operand V) → length ops ≡ snapshot_from kind + k → k ≤ suc i → ltb (j + 1) (length (at_operand j g ops)) ≡ false
  last g count q = le-ltb (j + 1) (length (at_operand j g ops)) (omega (arith, length_at g j ops))

  -- the operand and its row are changed in the same way: the same pass goes on with the next row, or another begins
  module _ (g : Operand V → Operand V) (row : Row V) {x y x' y' c' : ℕ} {phase : Phase V} {ph : relation.Phase V} (fits : Fits kind k x y rows ops) (agree : Agree kind x' y' i (g o) row) where
    goes_on_at : CollectPhase F (changed rows i row) k (suc i) (j + 1) c' phase x' y' ph → suc i < k
        → ((z : ℕ) → z < k → (z ≡ i → ⊥) → (z < x' → z < x) × (z < y' → z < y)) → Shows (runs kind (at_operand j g ops) new phase m c' false) l ph
    goes_on_at is q H = shows_collect (suc i) (j + 1) (still_collects made i j at g) (refit fits i j o g row x' y' at found_at agree H) is q (omega arith)

    begins_at : CollectPhase F (changed rows i row) k 0 (snapshot_from kind) c' phase x' y' ph
        → ((z : ℕ) → z < k → (z ≡ i → ⊥) → (z < x' → z < x) × (z < y' → z < y)) → Shows (runs kind (at_operand j g ops) new phase m c' false) l ph
    begins_at is H = shows_collect 0 (snapshot_from kind) (still_collects made i j at g) (refit fits i j o g row x' y' at found_at agree H) is (omega arith) (omega arith)

  -- S6
  s6_goes : Fits kind k 0 0 rows ops → Stuck N p l w (first_id F rows k i) → (x : Cell V) → w.tid (rows i).location ≡ x
      → Going (FirstId j) (first_id F rows k i) (Found x) (cells_of w)
  s6_goes fits stuck (Value v) e = stuck (λ sound _. no_tid (rows i).location e sound)
  s6_goes fits stuck (Id id) e =
      let g = put_first_id id in
      let agree = with_first_id_agrees (agrees fits) id (w.tid (rows i).location) e in
      elim (cases_lt (suc i) k) [
        | inl q ↦ rw (more g fits.count q) (look p, _, _, s6_on q, refl, (_, refl, refl, goes_on_at g _ fits agree at_s6 q (omega arith)))
        | inr q ↦ rw (last g fits.count q) (look p, _, _, s6_end q, refl, (_, refl, refl, begins_at g _ fits agree at_first (omega arith)))
      ]

  module _ (s : ReadPhase V) where
    -- the first collect
    first_goes : Fits kind k i 0 rows ops → Stuck N p l w (first_collect F rows k i (read_phase s)) → (seen : Seen V) (cells : Cells V)
        → ReadBy w p (rows i).location s seen cells → Going (FirstCollect j s) (first_collect F rows k i (read_phase s)) seen cells
    first_goes fits stuck seen cells (goes_on turn line kept) =
        rw turn (_, _, _, c1_on line, kept, (_, refl, refl, shows_collect i j made fits at_first h at))
    first_goes fits stuck seen cells (ends {v = v} turn line kept) =
        let g = put_first v in
        let agree = with_first_agrees (agrees fits) v in
        rw turn (elim (cases_lt (suc i) k) [
          | inl q ↦ rw (more g fits.count q) (_, _, _, c1_got line q, kept, (_, refl, refl, goes_on_at g _ fits (agree (suc i)) at_first q (omega arith)))
          | inr q ↦ rw (last g fits.count q) (_, _, _, c1_end line q, kept, (_, refl, refl, begins_at g _ fits (agree k) at_second (omega arith)))
        ])
    first_goes fits stuck seen cells (sticks turn bad) = rw turn (stuck (λ _ z. bad z.1))

    -- the second collect
    second_goes : Fits kind k k i rows ops → Stuck N p l w (second_collect F rows k c i (read_phase s)) → (seen : Seen V) (cells : Cells V)
        → ReadBy w p (rows i).location s seen cells → Going (SecondCollect j s) (second_collect F rows k c i (read_phase s)) seen cells
    second_goes fits stuck seen cells (goes_on turn line kept) =
        rw turn (_, _, _, c2_on line, kept, (_, refl, refl, shows_collect i j made fits at_second h at))
    second_goes fits stuck seen cells (ends {v = v} turn line kept) =
        let g = put_second v in
        let agree = with_second_agrees (agrees fits) v in
        rw turn (elim (cases_lt (suc i) k) [
          | inl q ↦ rw (more g fits.count q) (_, _, _, c2_got line q, kept, (_, refl, refl, goes_on_at g _ fits (agree (suc i)) at_second q (omega arith)))
          | inr q ↦ rw (last g fits.count q) (_, _, _, c2_end line q, kept, (_, refl, refl, begins_at g _ fits (agree k) at_s9 (omega arith)))
        ])
    second_goes fits stuck seen cells (sticks turn bad) = rw turn (stuck (λ _ z. bad z.1))

  -- S9
  s9_goes : Fits kind k k k rows ops → Stuck N p l w (second_id F rows k c i) → (x : Cell V) → w.tid (rows i).location ≡ x
      → Going (SecondId j) (second_id F rows k c i) (Found x) (cells_of w)
  s9_goes fits stuck (Value v) e = stuck (λ sound _. no_tid (rows i).location e sound)
  s9_goes fits stuck (Id id) e =
      let g = put_second_id id in
      let agree = with_second_id_agrees (agrees fits) id (w.tid (rows i).location) e in
      let fits9 = refit fits i j o g (with_id_second (rows i) (w.tid (rows i).location)) k k at found_at agree (omega arith) in
      elim (cases_lt (suc i) k) [
        | inl q ↦ rw (more g fits.count q) (look p, _, _, s9_on q, refl, (_, refl, refl, goes_on_at g _ fits agree at_s9 q (omega arith)))
        | inr q ↦ rw (last g fits.count q) (elim (cases_Bool (all_still code (drop (snapshot_from kind) (at_operand j g ops)))) [
          | inl r ↦ rw r (undisturbed_goes N t p n b w rows i c f id l kind ops new m F k j made h q at fits9 (same_rows code one fits9 r))
          | inr r ↦ rw r (
            look p,
            _,
            _,
            s9_again q refl (moved_rows code one fits9 r),
            refl,
            (_, refl, refl, shows_collect 0 (snapshot_from kind) (still_collects made i j at g) (fewer fits9 0 0 (omega arith)) at_s6 (omega arith) (omega arith)),
          )
        ])
      ]

  -- the access at the row
  opened_at : {x y : ℕ} → Fits kind k x y rows ops → (g : ℕ → Line × Access V)
      → cond (collects_from kind j) (with_place (operand_at ops 0) (λ _. with_place (operand_at ops j) (λ a. Some (g a)))) None ≡ Some (g (rows i).location)
  opened_at fits = opened made i j (rows i).location o at found_at (agrees fits).location

  -- every line of a SNAPSHOT, whatever it is made for
  pub collect_steps : (phase : Phase V) (x y : ℕ) (ph : relation.Phase V) → CollectPhase F rows k i j c phase x y ph → Fits kind k x y rows ops
      → Stuck N p l w ph → Steps Shows t p n b l code N w (runs kind ops new phase m c f) ph
  collect_steps _ _ _ _ at_s6 fits stuck = rw (opened_at fits (λ a. (S6, Load (Tid a)))) (s6_goes fits stuck (w.tid (rows i).location) refl)
  collect_steps _ _ _ _ (at_first {s = s}) fits stuck = rw (opened_at fits (λ a. read_access a s)) (by_reading w p (rows i).location s (first_goes s fits stuck))
  collect_steps _ _ _ _ (at_second {s = s}) fits stuck = rw (opened_at fits (λ a. read_access a s)) (by_reading w p (rows i).location s (second_goes s fits stuck))
  collect_steps _ _ _ _ at_s9 fits stuck = rw (opened_at fits (λ a. (S9, Load (Tid a)))) (s9_goes fits stuck (w.tid (rows i).location) refl)
