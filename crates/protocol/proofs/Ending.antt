-- What the end of an operation rests on.
use Rattle.std.proofs.Common.{◌≡◌, ℕ, zero, suc, ◌+◌, ◌<◌, ◌≤◌, Bool, true, false, cond, [], ◌∷◌, sym, refl, ap, ◌∙◌, subst, inl, inr, arith}
use mathlib.Core.Option.{Option, some, none}
use native.Mathlib.Decide.{ℕ_discrete}
use Rattle.memory.specs.declared.cell.Cell.TheVariants.{Value}
use Rattle.protocol.specs.Events.{Event}
use Rattle.protocol.specs.Events.Event.{mark, commit, fail}
use Rattle.protocol.specs.Operations.{Request, Answer, Finished}
use Rattle.protocol.specs.Operations.Request.{read, ll, sc, snapshot, kcss}
use Rattle.protocol.specs.Operations.Answer.{values, said}
use Rattle.protocol.specs.Phases.{Row, Rows, Process, Done, collected, places, wants, Meets, stage_of, tag_of}
use Rattle.protocol.specs.Phases.Process.{proc}
use Rattle.protocol.specs.Phases.Done.{done}
use Rattle.protocol.specs.Lines.{Line}
use Rattle.protocol.specs.Lines.Line.{read_on, read_got, attempt_value, attempt_id, again_value, again_id, link_on, link_got, line_7, line_8_yes, line_8_no}
use Rattle.protocol.specs.Lines.Line.{line_9_ll, line_9_one, line_9_more, sc_yes, sc_no, s6_on, s6_end, c1_on, c1_got, c1_end, c2_on, c2_got, c2_end, s9_on}
use Rattle.protocol.specs.Lines.Line.{s9_again, s9_solo, s9_inside, kcss_one, kcss_yes, kcss_retry, kcss_first, kcss_first_gone, kcss_other, kcss_other_gone}
use Rattle.protocol.specs.Runs.{Run, IsLineOf}
use Rattle.protocol.proofs.Changes.{clash}
use Rattle.protocol.specs.Seen.{Seen, AllSeen, SeenExpected, SeenDiffering}
use Rattle.protocol.specs.Certificates.{KcssYes, KcssNo}
use Rattle.protocol.proofs.Knowing.{W, Clear, Quiet, KInv, Held, EInv, F9, PInv, sub_own, to_9, more, quiet_still}
use Rattle.protocol.proofs.Tracing.{history}

abbrev pub since_of : {V : Type 0} → Process V → ℕ
since_of (proc n l b ph) = b

abbrev pub fin : {V : Type 0} → ℕ → ℕ → Request V → Answer V → ℕ → Finished V
fin t p q z f = record { process = p; request = q; answer = z; effect = f; last = t }

module _ {V : Type 0} (R : Run V) where
  seen_row : (f : ℕ) (r : Row V) → F9 R f r → r.id_first ≡ r.id_second → Seen (history R) f r.location r.first
  seen_row f r i e = record { tid_look = i.0; value_look = i.1; tid_look_again = i.2; tid_first = i.3; value_next = i.4; tid_last = i.5; same_tid = i.8 ∙ sym e ∙ sym i.6; found = i.7 }

  -- all rows from i on, below n
  abbrev Rowed : ℕ → Rows V → ℕ → ℕ → Type 0
  Rowed f rows i n = (j : ℕ) → i ≤ j → j < n → F9 R f (rows j) × ((rows j).id_first ≡ (rows j).id_second)

  seen_answers : (f : ℕ) (rows : Rows V) (i k n : ℕ) → i + k ≡ n → Rowed f rows i n → AllSeen (history R) f (places rows i k) (collected rows i k)
  seen_answers f rows i zero n e h = tt
  seen_answers f rows i (suc k) n e h =
      (let x = h i (omega arith) (omega arith) in seen_row f (rows i) x.0 x.1, seen_answers f rows (suc i) k n (omega arith) (λ j a b. h j (omega arith) b))

  seen_wants : (f : ℕ) (rows : Rows V) (i k n : ℕ) → i + k ≡ n → Rowed f rows i n → Meets rows n → SeenExpected (history R) f (wants rows i k)
  seen_wants f rows i zero n e h m = tt
  seen_wants f rows i (suc k) n e h m = (
    subst (Seen (history R) f (rows i).location) (m i (omega arith)) (let x = h i (omega arith) (omega arith) in seen_row f (rows i) x.0 x.1),
    seen_wants f rows (suc i) k n (omega arith) (λ j a b. h j (omega arith) b) m,
  )

  seen_other : (f : ℕ) (rows : Rows V) (i k n j : ℕ) → i + k ≡ n → Rowed f rows i n → i ≤ j → j < n → ((rows j).first ≡ (rows j).expected → ⊥) → SeenDiffering (history R) f (wants rows i k)
  seen_other f rows i zero n j e h l l' m = absurd (omega arith)
  seen_other f rows i (suc k) n j e h l l' m =
      elim (ℕ_discrete j i) [
        | yes q ↦ inl ((rows i).first, (let x = h i (omega arith) (omega arith) in seen_row f (rows i) x.0 x.1), subst (λ x. (rows x).first ≡ (rows x).expected → ⊥) q m)
        | no q ↦ inr (seen_other f rows (suc i) k n j (omega arith) (λ x a b. h x (omega arith) b) (omega arith) l' m)
      ]

  pub record Sc-ends (t p b f a : ℕ) (u : V) (y : Bool) : Type 0 where
    pub n : ℕ
    pub held : Held R t p n a
    pub now : f ≡ t
    pub its_cas : R.event t ≡ cond y (commit p a u) (fail p a)
    pub tag : (W R t).tag p ≡ n
    pub quiet : Quiet R p b t

  -- what an answer rests on: of an operation given at b, with effect f, that process p ends at t
  abbrev pub Ended : ℕ → ℕ → ℕ → ℕ → Request V → Answer V → Type 0
  Ended t p b f (read a) (values l) = (v : V) × (l ≡ v ∷ []) × ((W R f).val a ≡ Value v)
  Ended t p b f (read a) (said y) = ⊥
  Ended t p b f (ll a) (values l) = ((v : V) × (l ≡ v ∷ []) × (R.event f ≡ mark p a v)) × Quiet R p f (suc t)
  Ended t p b f (ll a) (said y) = ⊥
  Ended t p b f (sc a u) (values l) = ⊥
  Ended t p b f (sc a u) (said y) = Sc-ends t p b f a u y
  Ended t p b f (snapshot ls) (values l) = AllSeen (history R) f ls l
  Ended t p b f (snapshot ls) (said y) = ⊥
  Ended t p b f (kcss x o u) (values l) = ⊥
  Ended t p b f (kcss x o u) (said true) = KcssYes (history R) (fin t p (kcss x o u) (said true) f) x o u
  Ended t p b f (kcss x o u) (said false) = KcssNo (history R) (fin t p (kcss x o u) (said false) f) x o

  pub record Mine (t p b f : ℕ) : Type 0 where
    pub by : IsLineOf R f p
    pub past : f ≤ t
    pub clear : Clear R p f t
    pub begun : b ≤ f

  abbrev pub Ends : ℕ → ℕ → ℕ → Option (Done V) → Type 0
  Ends t p b none = Unit {0}
  Ends t p b (some (done q z f)) = Mine t p b f × Ended t p b f q z

  mine_now : {b : ℕ} (t p : ℕ) → IsLineOf R t p → b ≤ t → Mine t p b t
  mine_now t p w h = record { by = w; past = omega arith; clear = λ c h l. absurd (omega arith); begun = h }

  mine_8 : {t p n b a : ℕ} {v : V} {t8 : ℕ} → KInv R t p n b a v t8 → Mine t p b t8
  mine_8 k = record { by = k.mine8; past = (let h = k.early in omega arith); clear = k.clear8; begun = k.begun8 }

  mine_e : {t p n b a : ℕ} {v : V} {f : ℕ} → EInv R t p n b a v f → Mine t p b f
  mine_e k = record { by = k.minef; past = (let h = k.early in omega arith); clear = k.clearf; begun = k.begunf }

  pub line_ends : (t p : ℕ) {r r' : Process V} {e : Event V} {d : Option (Done V)} → Line t p (W R t) r e r' d → R.event t ≡ e → IsLineOf R t p
      → (W R t).tag p ≡ tag_of r → (W R t).stage p ≡ stage_of r → PInv R t p r → Ends t p (since_of r) d
  line_ends t p (read_on x) ev w g s i = tt
  line_ends t p (read_got x) ev w g s i = (mine_now t p w i.2, (_, refl, sub_own R x i.1))
  line_ends t p (attempt_value x) ev w g s i = tt
  line_ends t p (attempt_id k x) ev w g s i = tt
  line_ends t p (again_value x) ev w g s i = tt
  line_ends t p (again_id k x) ev w g s i = tt
  line_ends t p (link_on x) ev w g s i = tt
  line_ends t p (link_got x) ev w g s i = tt
  line_ends t p line_7 ev w g s i = tt
  line_ends t p (line_8_yes x) ev w g s i = tt
  line_ends t p (line_8_no x) ev w g s i = tt
  line_ends t p (line_9_ll {t8 = t8}) ev w g s i = (mine_8 i.1.0, ((_, refl, i.1.0.marks), quiet_still R t p t8 (λ a v y. clash (cc)) i.1.1))
  line_ends t p line_9_one ev w g s i = tt
  line_ends t p line_9_more ev w g s i = tt
  line_ends t p (sc_yes {n = n} x) ev w g s i = (mine_now t p w i.2, record { n = n; held = i.1.0; now = refl; its_cas = ev; tag = g; quiet = i.1.1 })
  line_ends t p (sc_no {n = n} x) ev w g s i = (mine_now t p w i.2, record { n = n; held = i.1.0; now = refl; its_cas = ev; tag = g; quiet = i.1.1 })
  line_ends t p (s6_on x) ev w g s i = tt
  line_ends t p (s6_end x) ev w g s i = tt
  line_ends t p (c1_on x) ev w g s i = tt
  line_ends t p (c1_got x y) ev w g s i = tt
  line_ends t p (c1_end x y) ev w g s i = tt
  line_ends t p (c2_on x) ev w g s i = tt
  line_ends t p (c2_got x y) ev w g s i = tt
  line_ends t p (c2_end x y) ev w g s i = tt
  line_ends t p (s9_on x) ev w g s i = tt
  line_ends t p (s9_again x y z) ev w g s i = tt
  line_ends t p (s9_solo {rows = rows} {rows' = rows'} {k = k} {f = f} {i = j} z y a) ev w g s h =
      let m = h.1.4.0 in (
        record { by = m.1; past = (let q = m.0 in omega arith); clear = m.2; begun = m.3 },
        seen_answers f rows' 0 k k (omega arith) (λ x _ l. (
          subst (λ (rr : Rows V). F9 R f (rr x)) (sym y)
              (more (F9 R f) rows j _ h.1.3 (to_9 R t f (rows j) (let q = m.0 in omega arith) (h.1.2 j h.1.1)) x (omega arith)),
          (a x l).0,
        )),
      )
  line_ends t p (s9_inside x y z) ev w g s i = tt
  line_ends t p (kcss_one x y) ev w g s i =
      let k = i.1.0 in
      (mine_now t p w i.2, record { commits = ev; same_tag = refl; noted = s; expected = k.keeps ∙ ap Value x; seen = tt })
  line_ends t p (kcss_yes {rows = rows} {k = k} {f = f} x z y) ev w g s i =
      let e = i.1.1 (omega arith) in (
        mine_e e,
        record {
          commits = ev;
          same_tag = e.tagf ∙ sym g;
          noted = e.stood;
          expected = e.savedf ∙ ap Value x;
          seen = seen_wants f rows 0 (suc k) (suc k) (omega arith) (λ x _. i.1.2 x) z;
        },
      )
  line_ends t p (kcss_retry x z y) ev w g s i = tt
  line_ends t p (kcss_first {v = v} x y) ev w g s i = (mine_8 i.1.0, inl (v, i.1.0.marks, x))
  line_ends t p (kcss_first_gone {v = v} x y) ev w g s i = (mine_8 i.1.0, inl (v, i.1.0.marks, x))
  line_ends t p (kcss_other {rows = rows} {k = k} {f = f} {j = j} x z u y) ev w g s i = (mine_e (i.1.1 (omega arith)), inr (seen_other f rows 0 k k j (omega arith) (λ x _. i.1.2 x) (omega arith) z u))
  line_ends t p (kcss_other_gone {rows = rows} {k = k} {f = f} {j = j} x z u y) ev w g s i = (mine_e (i.1.1 (omega arith)), inr (seen_other f rows 0 k k j (omega arith) (λ x _. i.1.2 x) (omega arith) z u))
