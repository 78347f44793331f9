-- Every line that ends nothing takes one from what remains.
use Rattle.std.proofs.Common.{◌≡◌, ℕ, zero, suc, ◌+◌, ◌*◌, ◌<◌, ◌≤◌, sym, refl, ap, ◌∙◌, subst, inl, inr, arith}
use mathlib.Core.Option.{none}
use Rattle.memory.specs.declared.cell.Cell.TheVariants.{Value}
use Rattle.protocol.specs.World.{World, id_cell, changed}
use Rattle.protocol.specs.Events.{Event, after}
use Rattle.protocol.specs.Phases.{ReadPhase, Rows, with_id_first, with_id_second, with_first, with_second, place_of, Purpose, Process, Same, tag_of}
use Rattle.protocol.specs.Phases.ReadPhase.{looks}
use Rattle.protocol.specs.Phases.Purpose.{inside}
use Rattle.protocol.specs.Phases.Phase.{first_id, first_collect, second_collect, second_id, swap}
use Rattle.protocol.specs.Lines.{Line, ReadLine}
use Rattle.protocol.specs.Lines.ReadTurn.{on}
use Rattle.protocol.specs.Lines.ReadLine.{line_13_value}
use Rattle.protocol.specs.Lines.Line.{read_on, attempt_value, attempt_id, again_value, again_id, link_on, link_got, line_7, line_8_yes, line_8_no}
use Rattle.protocol.specs.Lines.Line.{line_9_one, line_9_more, s6_on, s6_end, c1_on, c1_got, c1_end, c2_on, c2_got, c2_end, s9_on, s9_again, s9_inside, kcss_retry}
use Rattle.protocol.specs.Remaining.{cost, cost_again, costs, IdsStand, FirstsStand, ValuesAgree, IdsAgree, LeftIn, Left}
use Rattle.protocol.proofs.Changes.{changed_here}
use Rattle.protocol.proofs.Knowing.{more, hold}
use Rattle.protocol.proofs.Costing.{high, costs_low, costs_plain, costs_set, off_set, fits_set, costs_drop, beyond_lower, beyond_off, rest_calm, calm, read_tids, read_falls, no_turn, reads_some}

-- the lines of a SNAPSHOT
module _ {V : Type 0} (w : World V) (p n : ℕ) (F : Purpose V) (rows : Rows V) (k : ℕ) where
  -- S6
  module _ (i : ℕ) where
    abbrev with_6 : Rows V
    with_6 = changed rows i (with_id_first (rows i) (w.tid (rows i).location))

    ids_6 : IdsStand w.tid rows i → IdsStand w.tid with_6 (suc i)
    ids_6 d = more (λ r. w.tid r.location ≡ r.id_first) rows i _ d refl

    pub s6_falls : (N : ℕ) → suc i < k → LeftIn w.val w.tid p n (first_id F rows k i) (suc N) → LeftIn w.val w.tid p n (first_id F with_6 k (suc i)) N
    s6_falls N y (f, l, E, R, inl h) = (fits_set rows i _ refl F k f, y, E, R, inl (let c = costs_set rows i (with_id_first (rows i) (w.tid (rows i).location)) refl w.val k in omega arith))
    s6_falls N y (f, l, E, R, inr (d, h)) =
        (fits_set rows i _ refl F k f, y, E, R, inr (ids_6 d, let c = costs_set rows i (with_id_first (rows i) (w.tid (rows i).location)) refl w.val k in omega arith))

    pub s6_ends : (N : ℕ) → k ≤ suc i → LeftIn w.val w.tid p n (first_id F rows k i) (suc N)
        → LeftIn w.val w.tid p n (first_collect F with_6 k zero looks) N
    s6_ends N y (f, l, E, R, inl h) = (
      fits_set rows i _ refl F k f,
      omega arith,
      E,
      R,
      cost (w.val (with_6 zero).location),
      omega arith,
      inl (let c = costs_set rows i (with_id_first (rows i) (w.tid (rows i).location)) refl w.val k in omega arith),
    )
    s6_ends N y (f, l, E, R, inr (d, h)) = (
      fits_set rows i _ refl F k f,
      omega arith,
      E,
      R,
      cost (w.val (with_6 zero).location),
      omega arith,
      inr (
        (λ j m. ids_6 d j (omega arith)),
        (λ j m. absurd (omega arith)),
        let c = costs_set rows i (with_id_first (rows i) (w.tid (rows i).location)) refl w.val k in omega arith,
      ),
    )

  -- a line of a READ in a collect
  module _ (i N : ℕ) {s s' : ReadPhase V} {e : Event V} (x : ReadLine w p (rows i).location s e (on s')) where
    ids_on : IdsStand w.tid rows k → IdsStand (after e w).tid rows k
    ids_on d j m = read_tids x (rows j).location ∙ d j m

    pub c1_falls : LeftIn w.val w.tid p n (first_collect F rows k i s) (suc N)
        → LeftIn (after e w).val (after e w).tid p n (first_collect F rows k i s') N
    c1_falls (f, l, E, R, zero, rd, h) = absurd (reads_some w.val (rows i).location s rd)
    c1_falls (f, l, E, R, suc r, rd, inl h) =
        (f, l, E, rest_calm p n i k E rows F (calm x) l f R, r, read_falls r x rd, inl (let c = costs_drop (calm x) rows i k l in omega arith))
    c1_falls (f, l, E, R, suc r, rd, inr (d, g, h)) = (
      f,
      l,
      E,
      rest_calm p n i k E rows F (calm x) l f R,
      r,
      read_falls r x rd,
      inr (ids_on d, (λ j m. (calm x).keeps (rows j).location (rows j).first (g j m)), let c = costs_drop (calm x) rows i k l in omega arith),
    )

    pub c2_falls : (o : ℕ) → LeftIn w.val w.tid p n (second_collect F rows k o i s) (suc N)
        → LeftIn (after e w).val (after e w).tid p n (second_collect F rows k o i s') N
    c2_falls o (f, l, E, R, inl (zero, rd, h)) = absurd (reads_some w.val (rows i).location s rd)
    c2_falls o (f, l, E, R, inl (suc r, rd, h)) =
        (f, l, E, rest_calm p n i k E rows F (calm x) l f R, inl (r, read_falls r x rd, let c = costs_drop (calm x) rows i k l in omega arith))
    c2_falls o (f, l, E, R, inr (q, d, g, a, h)) = absurd (no_turn x q (g i l))

  -- 13 that finds a value, in the first collect
  module _ (i N : ℕ) (v : V) (x : w.val (rows i).location ≡ Value v) where
    one : cost (w.val (rows i).location) ≡ 1
    one = ap cost x

    abbrev with_1 : Rows V
    with_1 = changed rows i (with_first (rows i) v)

    same_1 : costs w.val with_1 k ≡ costs w.val rows k
    same_1 = costs_set rows i (with_first (rows i) v) refl w.val k

    firsts_1 : FirstsStand w.val rows i → FirstsStand w.val with_1 (suc i)
    firsts_1 g = more (λ r. w.val r.location ≡ Value r.first) rows i _ g x

    ids_1 : i < k → IdsStand w.tid rows k → IdsStand w.tid with_1 k
    ids_1 l d = hold (λ r. w.tid r.location ≡ r.id_first) rows i _ k d l (λ e. e)

    pub c1_gets : suc i < k → LeftIn w.val w.tid p n (first_collect F rows k i looks) (suc N)
        → LeftIn w.val w.tid p n (first_collect F with_1 k (suc i) looks) N
    c1_gets y (f, l, E, R, r, rd, inl h) =
        (fits_set rows i _ refl F k f, y, E, R, cost (w.val (with_1 (suc i)).location), omega arith, inl (let c = same_1 in let o = one in omega arith))
    c1_gets y (f, l, E, R, r, rd, inr (d, g, h)) = (
      fits_set rows i _ refl F k f,
      y,
      E,
      R,
      cost (w.val (with_1 (suc i)).location),
      omega arith,
      inr (ids_1 l d, firsts_1 g, let c = same_1 in let o = one in omega arith),
    )

    pub c1_ends : (o : ℕ) → k ≤ suc i → LeftIn w.val w.tid p n (first_collect F rows k i looks) (suc N)
        → LeftIn w.val w.tid p n (second_collect F with_1 k o zero looks) N
    c1_ends o y (f, l, E, R, r, rd, inl h) = (
      fits_set rows i _ refl F k f,
      omega arith,
      E,
      R,
      inl (cost (w.val (with_1 zero).location), omega arith, let c = same_1 in let u = one in omega arith),
    )
    c1_ends o y (f, l, E, R, r, rd, inr (d, g, h)) = (
      fits_set rows i _ refl F k f,
      omega arith,
      E,
      R,
      inr (
        refl,
        ids_1 l d,
        (λ j m. firsts_1 g j (omega arith)),
        (λ j m. absurd (omega arith)),
        let c = costs_low w.val rows k in let u = one in omega arith,
      ),
    )

    -- and in the second
    abbrev with_2 : Rows V
    with_2 = changed rows i (with_second (rows i) v)

    same_2 : costs w.val with_2 k ≡ costs w.val rows k
    same_2 = costs_set rows i (with_second (rows i) v) refl w.val k

    ids_2 : i < k → IdsStand w.tid rows k → IdsStand w.tid with_2 k
    ids_2 l d = hold (λ r. w.tid r.location ≡ r.id_first) rows i _ k d l (λ e. e)

    firsts_2 : i < k → FirstsStand w.val rows k → FirstsStand w.val with_2 k
    firsts_2 l g = hold (λ r. w.val r.location ≡ Value r.first) rows i _ k g l (λ e. e)

    agree_2 : i < k → FirstsStand w.val rows k → ValuesAgree rows i → ValuesAgree with_2 (suc i)
    agree_2 l g a = more (λ r. r.first ≡ r.second) rows i _ a (let z = g i l in cc)

    pub c2_gets : (o : ℕ) → suc i < k → LeftIn w.val w.tid p n (second_collect F rows k o i looks) (suc N)
        → LeftIn w.val w.tid p n (second_collect F with_2 k o (suc i) looks) N
    c2_gets o y (f, l, E, R, inl (r, rd, h)) = (
      fits_set rows i _ refl F k f,
      y,
      E,
      R,
      inl (cost (w.val (with_2 (suc i)).location), omega arith, let c = same_2 in let u = one in omega arith),
    )
    c2_gets o y (f, l, E, R, inr (q, d, g, a, h)) =
        (fits_set rows i _ refl F k f, y, E, R, inr (refl, ids_2 l d, firsts_2 l g, agree_2 l g a, omega arith))

    pub c2_ends : (o : ℕ) → k ≤ suc i → LeftIn w.val w.tid p n (second_collect F rows k o i looks) (suc N)
        → LeftIn w.val w.tid p n (second_id F with_2 k o zero) N
    c2_ends o y (f, l, E, R, inl (r, rd, h)) =
        (fits_set rows i _ refl F k f, omega arith, E, R, inl (let c = same_2 in let u = one in omega arith))
    c2_ends o y (f, l, E, R, inr (q, d, g, a, h)) = (
      fits_set rows i _ refl F k f,
      omega arith,
      E,
      R,
      inr (ids_2 l d, firsts_2 l g, (λ j m. agree_2 l g a j (omega arith)), (λ j m. absurd (omega arith)), omega arith),
    )

  -- S9
  module _ (i N o : ℕ) where
    abbrev with_9 : Rows V
    with_9 = changed rows i (with_id_second (rows i) (w.tid (rows i).location))

    same_9 : costs w.val with_9 k ≡ costs w.val rows k
    same_9 = costs_set rows i (with_id_second (rows i) (w.tid (rows i).location)) refl w.val k

    ids_9 : i < k → IdsStand w.tid rows k → IdsStand w.tid with_9 k
    ids_9 l d = hold (λ r. w.tid r.location ≡ r.id_first) rows i _ k d l (λ e. e)

    firsts_9 : i < k → FirstsStand w.val rows k → FirstsStand w.val with_9 k
    firsts_9 l g = hold (λ r. w.val r.location ≡ Value r.first) rows i _ k g l (λ e. e)

    values_9 : i < k → ValuesAgree rows k → ValuesAgree with_9 k
    values_9 l a = hold (λ r. r.first ≡ r.second) rows i _ k a l (λ e. e)

    agree_9 : i < k → IdsStand w.tid rows k → IdsAgree rows i → IdsAgree with_9 (suc i)
    agree_9 l d b = more (λ r. r.id_first ≡ r.id_second) rows i _ b (sym (d i l))

    pub s9_falls : suc i < k → LeftIn w.val w.tid p n (second_id F rows k o i) (suc N)
        → LeftIn w.val w.tid p n (second_id F with_9 k o (suc i)) N
    s9_falls y (f, l, E, R, inl h) = (fits_set rows i _ refl F k f, y, E, R, inl (let c = same_9 in omega arith))
    s9_falls y (f, l, E, R, inr (d, g, a, b, h)) =
        (fits_set rows i _ refl F k f, y, E, R, inr (ids_9 l d, firsts_9 l g, values_9 l a, agree_9 l d b, omega arith))

    pub s9_repeats : k ≤ suc i → (Same with_9 k → ⊥) → LeftIn w.val w.tid p n (second_id F rows k o i) (suc N)
        → LeftIn w.val w.tid p n (first_id F with_9 k zero) N
    s9_repeats y z (f, l, E, R, inl h) = (fits_set rows i _ refl F k f, omega arith, E, R, inr ((λ j m. absurd (omega arith)), let c = same_9 in omega arith))
    s9_repeats y z (f, l, E, R, inr (d, g, a, b, h)) = absurd (z (λ j m. (agree_9 l d b j (omega arith), values_9 l a j m)))

module _ {V : Type 0} (w : World V) (p n a : ℕ) (x u v : V) (t8 : ℕ) (rows : Rows V) (k i N o : ℕ) where
  pub s9_goes : k ≤ suc i → LeftIn w.val w.tid p n (second_id (inside a x u v t8) rows k o i) (suc N)
      → LeftIn w.val w.tid p n (swap a x u v t8 (with_9 w p n (inside a x u v t8) rows k i N o) k o) N
  s9_goes y (f, l, E, inl e, inl h) = (off_set rows i _ refl a k f, inl (let c = same_9 w p n (inside a x u v t8) rows k i N o in omega arith))
  s9_goes y (f, l, E, inl e, inr (d, g, b, c, h)) = (
    off_set rows i _ refl a k f,
    inl (let z = same_9 w p n (inside a x u v t8) rows k i N o in let q = costs_plain w.val rows k g in omega arith),
  )
  s9_goes y (f, l, E, inr (m, e), inl h) = (off_set rows i _ refl a k f, inr (m, omega arith))
  s9_goes y (f, l, E, inr (m, e), inr (d, g, b, c, h)) = (off_set rows i _ refl a k f, inr (m, omega arith))

module _ {V : Type 0} {t p : ℕ} {w : World V} (N : ℕ) where
  pub fall : {r r' : Process V} {e : Event V} → Line t p w r e r' none → w.tag p ≡ tag_of r → Left w.val w.tid p r (suc N)
      → Left (after e w).val (after e w).tid p r' N
  fall (read_on x) q h = read_falls N x h
  fall (attempt_value {J = J} x) q (f, h) = (f, inr (x, let c : cost (w.val (place_of J)) ≡ 1 = ap cost x in omega arith))
  fall (attempt_id {J = J} k x) q (f, h) =
      (f, 4, (let c : cost_again (w.val (place_of J)) ≡ 4 = ap cost_again x in omega arith), let c : cost (w.val (place_of J)) ≡ 5 = ap cost x in omega arith)
  fall (again_value {J = J} x) q (f, h) = (f, inr (x, let c : cost (w.val (place_of J)) ≡ 1 = ap cost x in omega arith))
  fall (again_id {J = J} k x) q (f, h) =
      (f, 4, (let c : cost_again (w.val (place_of J)) ≡ 4 = ap cost_again x in omega arith), let c : cost (w.val (place_of J)) ≡ 5 = ap cost x in omega arith)
  fall (link_on {J = J} {s = s} x) q (f, zero, rd, h) = absurd (reads_some w.val (place_of J) s rd)
  fall (link_on {J = J} x) q (f, suc r, rd, h) = (f, r, read_falls r x rd, let g = beyond_lower (calm x) J in omega arith)
  fall (link_got {J = J} (line_13_value v x)) q (f, r, rd, h) = (f, inr (x, let c : cost (w.val (place_of J)) ≡ 1 = ap cost x in omega arith))
  fall line_7 q (f, inl h) = (f, inl (omega arith))
  fall line_7 q (f, inr (x, h)) = (f, inr (x, omega arith))
  fall (line_8_yes {J = J} x) q (f, inl h) =
      (f, inr (changed_here w.val (place_of J) _ ∙ ap (id_cell p) q, let g = beyond_off w.val (id_cell p (w.tag p)) J f in omega arith))
  fall (line_8_yes {J = J} x) q (f, inr (y, h)) =
      (f, inr (changed_here w.val (place_of J) _ ∙ ap (id_cell p) q, let g = beyond_off w.val (id_cell p (w.tag p)) J f in omega arith))
  fall (line_8_no {J = J} x) q (f, inl h) = (f, let c = high (w.val (place_of J)) in omega arith)
  fall (line_8_no x) q (f, inr (y, h)) = absurd (x y)
  fall line_9_one q (f, inl h) = (f, inl (omega arith))
  fall line_9_one q (f, inr (y, h)) = (f, inr (y, omega arith))
  fall (line_9_more {k = k}) q (f, inl h) = (f, omega arith, 4 * suc k + 10, inl refl, inr ((λ j m. absurd (omega arith)), omega arith))
  fall (line_9_more {k = k}) q (f, inr (y, h)) = (f, omega arith, 1, inr (y, refl), inr ((λ j m. absurd (omega arith)), omega arith))
  fall (s6_on {n = n} {F = F} {rows = rows} {k = k} {i = i} y) q h = s6_falls w p n F rows k i N y h
  fall (s6_end {n = n} {F = F} {rows = rows} {k = k} {i = i} y) q h = s6_ends w p n F rows k i N y h
  fall (c1_on {n = n} {F = F} {rows = rows} {k = k} {i = i} x) q h = c1_falls w p n F rows k i N x h
  fall (c1_got {n = n} {F = F} {rows = rows} {k = k} {i = i} (line_13_value v x) y) q h = c1_gets w p n F rows k i N v x y h
  fall (c1_end {n = n} {F = F} {rows = rows} {k = k} {i = i} (line_13_value v x) y) q h = c1_ends w p n F rows k i N v x t y h
  fall (c2_on {n = n} {F = F} {rows = rows} {k = k} {f = o} {i = i} x) q h = c2_falls w p n F rows k i N x o h
  fall (c2_got {n = n} {F = F} {rows = rows} {k = k} {f = o} {i = i} (line_13_value v x) y) q h = c2_gets w p n F rows k i N v x o y h
  fall (c2_end {n = n} {F = F} {rows = rows} {k = k} {f = o} {i = i} (line_13_value v x) y) q h = c2_ends w p n F rows k i N v x o y h
  fall (s9_on {n = n} {F = F} {rows = rows} {k = k} {f = o} {i = i} y) q h = s9_falls w p n F rows k i N o y h
  fall (s9_again {n = n} {F = F} {rows = rows} {rows' = rows'} {k = k} {f = o} {i = i} y e z) q h =
      subst (λ (x : Rows V). LeftIn w.val w.tid p n (first_id F x k zero) N) (sym e)
      (s9_repeats w p n F rows k i N o y (λ s. z (subst (λ (x : Rows V). Same x k) (sym e) s)) h)
  fall (s9_inside {n = n} {a = a} {x = x} {u = u} {v = v} {t8 = t8} {rows = rows} {rows' = rows'} {k = k} {f = o} {i = i} y e z) q h =
      subst (λ (r : Rows V). LeftIn w.val w.tid p n (swap a x u v t8 r k o) N) (sym e) (s9_goes w p n a x u v t8 rows k i N o y h)
  fall (kcss_retry {a = a} x y z) q (f, inl h) = (f, let c = high (w.val a) in omega arith)
  fall (kcss_retry x y z) q (f, inr (m, h)) = absurd (z m)
