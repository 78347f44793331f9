-- What each process knows of the past, by its phase. The run is fixed, so a fact of a past time needs no upkeep.
use Rattle.std.proofs.Common.{◌≡◌, ℕ, suc, ◌<◌, ◌≤◌, [], ◌∷◌, sym, refl, ap, ◌∙◌, subst, arith}
use mathlib.Core.Option.{Option, some, none}
use native.Mathlib.Decide.{ℕ_discrete}
use Rattle.memory.specs.declared.cell.Cell.TheVariants.{Value, Id}
use Rattle.protocol.specs.World.{World, changed}
use Rattle.protocol.specs.World.Stage.{armed}
use Rattle.protocol.specs.Events.{Event, after}
use Rattle.protocol.specs.Events.Event.{mark, reset}
use Rattle.protocol.specs.Operations.{Request, Answer}
use Rattle.protocol.specs.Operations.Request.{ll}
use Rattle.protocol.specs.Operations.Answer.{values}
use Rattle.protocol.specs.Phases.{ReadPhase, Row, Rows, with_id_second, place_of, Purpose, Phase, Process, purpose_stage}
use Rattle.protocol.specs.Phases.ReadPhase.{looks, looks_again, fetches, resets}
use Rattle.protocol.specs.Phases.Purpose.{solo, inside}
use Rattle.protocol.specs.Phases.Phase.{resting, reading, attempt, attempt_again, linking, to_save, to_mark, to_note, swap_sc, first_id, first_collect}
use Rattle.protocol.specs.Phases.Phase.{second_collect, second_id, swap}
use Rattle.protocol.specs.Phases.Process.{proc}
use Rattle.protocol.specs.Phases.Done.{done}
use Rattle.protocol.specs.Lines.{ReadTurn, ReadLine}
use Rattle.protocol.specs.Lines.ReadTurn.{on, got}
use Rattle.protocol.specs.Lines.ReadLine.{line_13_value, line_13_id, line_1_value, line_1_id, line_3a, line_3b_yes, line_3b_no}
use Rattle.protocol.specs.Runs.{world, Run, IsLineOf}
use Rattle.protocol.proofs.Changes.{clash, changed_here, changed_else}
use Rattle.protocol.specs.Certificates.{KeepsLink}

pub later : (b t : ℕ) → b ≤ t → b ≤ suc t
later b t h = omega arith

-- rows while one of them is set
pub more : {V : Type 0} (P : Row V → Type 0) (rows : Rows V) (i : ℕ) (new : Row V) → ((j : ℕ) → j < i → P (rows j)) → P new
    → (j : ℕ) → j < suc i → P (changed rows i new j)
more P rows i new old here j h =
    elim (ℕ_discrete j i) [
      | yes e ↦ subst P (sym (ap (changed rows i new) e ∙ changed_here rows i new)) here
      | no k ↦ subst P (sym (changed_else rows i new j k)) (old j (omega arith))
    ]

pub hold : {V : Type 0} (P : Row V → Type 0) (rows : Rows V) (i : ℕ) (new : Row V) (k : ℕ) → ((j : ℕ) → j < k → P (rows j)) → i < k → (P (rows i) → P new)
    → (j : ℕ) → j < k → P (changed rows i new j)
hold P rows i new k old l f j h =
    elim (ℕ_discrete j i) [
      | yes e ↦ subst P (sym (ap (changed rows i new) e ∙ changed_here rows i new)) (f (old i l))
      | no n ↦ subst P (sym (changed_else rows i new j n)) (old j h)
    ]

module _ {V : Type 0} (R : Run V) where
  abbrev pub W : ℕ → World V
  W t = world (R.at t)

  -- what a READ knows by its phase
  abbrev pub ReadInv : ℕ → ℕ → ReadPhase V → Type 0
  ReadInv t a looks = Unit {0}
  ReadInv t a looks_again = Unit {0}
  ReadInv t a (fetches k) = (s : ℕ) × (s < t) × ((W s).val a ≡ Id k)
  ReadInv t a (resets k v) = (s : ℕ) × (u : ℕ) × (s ≤ u) × (u < t) × ((W s).val a ≡ Id k) × ((W u).saved k.process ≡ Value v)

  abbrev pub TurnInv : ℕ → ℕ → ReadTurn V → Type 0
  TurnInv t a (on s) = ReadInv (suc t) a s
  TurnInv t a (got v) = (W t).val a ≡ Value v

  pub sub_own : {t p a : ℕ} {s : ReadPhase V} {e : Event V} {o : ReadTurn V} → ReadLine (W t) p a s e o → ReadInv t a s → TurnInv t a o
  sub_own (line_13_value v x) i = x
  sub_own (line_13_id k x) i = tt
  sub_own (line_1_value v x) i = tt
  sub_own {t = t} (line_1_id k x) i = (t, omega arith, x)
  sub_own {t = t} (line_3a k v x) i = (i.0, t, (let h = i.1 in omega arith), omega arith, i.2, x)
  sub_own (line_3b_yes k v x) i = tt
  sub_own (line_3b_no k v x) i = tt

  sub_still : (t a : ℕ) (s : ReadPhase V) → ReadInv t a s → ReadInv (suc t) a s
  sub_still t a looks i = tt
  sub_still t a looks_again i = tt
  sub_still t a (fetches k) i = (i.0, (let h = i.1 in omega arith), i.2)
  sub_still t a (resets k v) i = (i.0, i.1, i.2, (let h = i.3 in omega arith), i.4, i.5)

  -- p resets nothing from s on, before t
  abbrev pub Quiet : ℕ → ℕ → ℕ → Type 0
  Quiet p s t = (c a : ℕ) (v : V) → s ≤ c → c < t → R.event c ≡ reset p a v → ⊥

  -- p resets nothing now
  abbrev pub Hush : ℕ → ℕ → Type 0
  Hush t p = (a : ℕ) (v : V) → R.event t ≡ reset p a v → ⊥

  pub quiet_still : (t p s : ℕ) → Hush t p → Quiet p s t → Quiet p s (suc t)
  quiet_still t p s g k c a v h l e =
      elim (ℕ_discrete c t) [ yes i ↦ g a v (ap R.event (sym i) ∙ e) | no n ↦ k c a v h (omega arith) e ]

  -- from f on, p has finished nothing before t
  abbrev pub Clear : ℕ → ℕ → ℕ → Type 0
  Clear p f t = (c : ℕ) → f ≤ c → c < t → R.who c ≡ p → R.out c ≡ none

  -- its mark was put at t8, and the value that it saw is still saved
  pub record KInv (t p n b a : ℕ) (v : V) (t8 : ℕ) : Type 0 where
    pub early : t8 < t
    pub begun8 : b ≤ t8
    pub marks : R.event t8 ≡ mark p a v
    pub tag8 : (W t8).tag p ≡ n
    pub keeps : (W t).saved p ≡ Value v
    pub mine8 : IsLineOf R t8 p
    pub clear8 : Clear p t8 t

  -- the LL that gave p its link, with effect e0 and last step l0; since then p finished nothing that touches links
  pub record Held (t p n a : ℕ) : Type 0 where
    pub e0 : ℕ
    pub x : V
    pub l0 : ℕ
    pub early : l0 < t
    pub order : e0 < l0
    pub marks : R.event e0 ≡ mark p a x
    pub tag0 : (W e0).tag p ≡ n
    pub out0 : R.out l0 ≡ some (done (ll a) (values (x ∷ [])) e0)
    pub who0 : R.who l0 ≡ p
    pub clear0 : Clear p e0 l0
    pub quiet0 : Quiet p e0 (suc l0)
    pub since : (c f : ℕ) (q : Request V) (z : Answer V) → l0 < c → c < t → R.who c ≡ p → R.out c ≡ some (done q z f) → KeepsLink q

  pub record EInv (t p n b a : ℕ) (v : V) (f : ℕ) : Type 0 where
    pub early : f < t
    pub begunf : b ≤ f
    pub stood : (W f).stage p ≡ armed a
    pub tagf : (W f).tag p ≡ n
    pub savedf : (W f).saved p ≡ Value v
    pub minef : IsLineOf R f p
    pub clearf : Clear p f t

  abbrev pub ForInv : ℕ → ℕ → ℕ → ℕ → Purpose V → Type 0
  ForInv t p n b solo = Unit {0}
  ForInv t p n b (inside a x u v t8) = KInv t p n b a v t8

  abbrev pub EffInv : ℕ → ℕ → ℕ → ℕ → Purpose V → ℕ → Type 0
  EffInv t p n b solo f = (f < t) × IsLineOf R f p × Clear p f t × (b ≤ f)
  EffInv t p n b (inside a x u v t8) f = EInv t p n b a v f

  abbrev pub F6 : ℕ → Row V → Type 0
  F6 t r = (s : ℕ) × (s < t) × ((W s).tid r.location ≡ r.id_first)

  abbrev pub F1 : ℕ → Row V → Type 0
  F1 t r = (s : ℕ) × (u : ℕ) × (s ≤ u) × (u < t) × ((W s).tid r.location ≡ r.id_first) × ((W u).val r.location ≡ Value r.first)

  abbrev pub F9 : ℕ → Row V → Type 0
  F9 f r = (s : ℕ) × (u : ℕ) × (z : ℕ) × (s ≤ u) × (u ≤ f) × (f ≤ z) × ((W s).tid r.location ≡ r.id_first) × ((W u).val r.location ≡ Value r.first) × ((W z).tid r.location ≡ r.id_second)

  abbrev pub LinkInv : ℕ → ℕ → ℕ → Option ℕ → Type 0
  LinkInv t p n none = Unit {0}
  LinkInv t p n (some a) = Held t p n a

  abbrev pub PhInv : ℕ → ℕ → ℕ → ℕ → Phase V → Type 0
  PhInv t p n b resting = Unit {0}
  PhInv t p n b (reading a s) = ReadInv t a s
  PhInv t p n b (attempt J) = Unit {0}
  PhInv t p n b (attempt_again J) = Unit {0}
  PhInv t p n b (linking J s) = ReadInv t (place_of J) s
  PhInv t p n b (to_save J v) = Unit {0}
  PhInv t p n b (to_mark J v) = (W t).saved p ≡ Value v
  PhInv t p n b (to_note J v t8) = KInv t p n b (place_of J) v t8 × Quiet p t8 t
  PhInv t p n b (swap_sc a u) = Held t p n a × Quiet p b t
  PhInv t p n b (first_id F rows k i) = ForInv t p n b F × (i < k) × ((j : ℕ) → j < i → F6 t (rows j))
  PhInv t p n b (first_collect F rows k i s) = ForInv t p n b F × (i < k) × ReadInv t (rows i).location s × ((j : ℕ) → j < k → F6 t (rows j)) × ((j : ℕ) → j < i → F1 t (rows j))
  PhInv t p n b (second_collect F rows k f i s) = ForInv t p n b F × (i < k) × ReadInv t (rows i).location s × ((j : ℕ) → j < k → F1 (suc f) (rows j)) × EffInv t p n b F f
  PhInv t p n b (second_id F rows k f i) = ForInv t p n b F × (i < k) × ((j : ℕ) → j < k → F1 (suc f) (rows j)) × ((j : ℕ) → j < i → F9 f (rows j)) × (EffInv t p n b F f × (f < t))
  PhInv t p n b (swap a x u v t8 rows k f) = KInv t p n b a v t8 × (0 < k → EInv t p n b a v f) × ((j : ℕ) → j < k → F9 f (rows j) × ((rows j).id_first ≡ (rows j).id_second))

  abbrev pub PInv : ℕ → ℕ → Process V → Type 0
  PInv t p (proc n l b ph) = LinkInv t p n l × PhInv t p n b ph × (b ≤ t)

  -- p ends nothing now
  abbrev pub Goes : ℕ → ℕ → Type 0
  Goes t p = R.who t ≡ p → R.out t ≡ none

  pub clear_still : (t p f : ℕ) → Goes t p → Clear p f t → Clear p f (suc t)
  clear_still t p f g k c h l w =
      elim (ℕ_discrete c t) [ yes e ↦ ap R.out e ∙ g (ap R.who (sym e) ∙ w) | no n ↦ k c h (omega arith) w ]

  pub k_still : {t p n b a : ℕ} {v : V} {t8 : ℕ} → (W (suc t)).saved p ≡ (W t).saved p → Goes t p → KInv t p n b a v t8 → KInv (suc t) p n b a v t8
  k_still {t = t} {p = p} {t8 = t8} e g k =
      record { early = (let h = k.early in omega arith); marks = k.marks; tag8 = k.tag8; keeps = e ∙ k.keeps; mine8 = k.mine8; clear8 = clear_still t p t8 g k.clear8; begun8 = k.begun8 }

  -- p ends nothing that touches links now
  abbrev pub Spares : ℕ → ℕ → Type 0
  Spares t p = (q : Request V) (z : Answer V) (f : ℕ) → R.who t ≡ p → R.out t ≡ some (done q z f) → KeepsLink q

  pub spares : (t p : ℕ) → Goes t p → Spares t p
  spares t p g q z f w e = let k = g w in clash (cc)

  pub h_still : {t p n a : ℕ} → Spares t p → Held t p n a → Held (suc t) p n a
  h_still {t = t} g k =
      record {
        e0 = k.e0;
        x = k.x;
        l0 = k.l0;
        early = (let h = k.early in omega arith);
        order = k.order;
        marks = k.marks;
        tag0 = k.tag0;
        out0 = k.out0;
        who0 = k.who0;
        clear0 = k.clear0;
        quiet0 = k.quiet0;
        since = λ c f q z h l w e. elim (ℕ_discrete c t) [
          | yes i ↦ g q z f (ap R.who (sym i) ∙ w) (ap R.out (sym i) ∙ e)
          | no i ↦ k.since c f q z h (omega arith) w e
        ];
      }

  pub e_still : {t p n b a : ℕ} {v : V} {f : ℕ} → Goes t p → EInv t p n b a v f → EInv (suc t) p n b a v f
  e_still {t = t} {p = p} {f = f} g k =
      record { early = (let h = k.early in omega arith); stood = k.stood; tagf = k.tagf; savedf = k.savedf; minef = k.minef; clearf = clear_still t p f g k.clearf; begunf = k.begunf }

  pub for_still : (t p n b : ℕ) (F : Purpose V) → (W (suc t)).saved p ≡ (W t).saved p → Goes t p → ForInv t p n b F → ForInv (suc t) p n b F
  for_still t p n b solo e g i = tt
  for_still t p n b (inside a x u v t8) e g i = k_still e g i

  pub eff_still : (t p n b : ℕ) (F : Purpose V) (f : ℕ) → Goes t p → EffInv t p n b F f → EffInv (suc t) p n b F f
  eff_still t p n b solo f g i = ((let h = i.0 in omega arith), i.1, clear_still t p f g i.2, i.3)
  eff_still t p n b (inside a x u v t8) f g i = e_still g i

  pub link_still : (t p n : ℕ) (l : Option ℕ) → Spares t p → LinkInv t p n l → LinkInv (suc t) p n l
  link_still t p n none g i = tt
  link_still t p n (some a) g i = h_still g i

  pub f6_still : (t : ℕ) (r : Row V) → F6 t r → F6 (suc t) r
  f6_still t r i = (i.0, (let h = i.1 in omega arith), i.2)

  pub f1_still : (t : ℕ) (r : Row V) → F1 t r → F1 (suc t) r
  f1_still t r i = (i.0, i.1, i.2, (let h = i.3 in omega arith), i.4, i.5)

  ph_still : (t p n b : ℕ) (ph : Phase V) → (W (suc t)).saved p ≡ (W t).saved p → Goes t p → Hush t p → PhInv t p n b ph → PhInv (suc t) p n b ph
  ph_still t p n b resting e g y i = tt
  ph_still t p n b (reading a s) e g y i = sub_still t a s i
  ph_still t p n b (attempt J) e g y i = tt
  ph_still t p n b (attempt_again J) e g y i = tt
  ph_still t p n b (linking J s) e g y i = sub_still t (place_of J) s i
  ph_still t p n b (to_save J v) e g y i = tt
  ph_still t p n b (to_mark J v) e g y i = e ∙ i
  ph_still t p n b (to_note J v t8) e g y i = (k_still e g i.0, quiet_still t p t8 y i.1)
  ph_still t p n b (swap_sc a u) e g y i = (h_still (spares t p g) i.0, quiet_still t p b y i.1)
  ph_still t p n b (first_id F rows k i) e g y h = (for_still t p n b F e g h.0, h.1, λ j l. f6_still t (rows j) (h.2 j l))
  ph_still t p n b (first_collect F rows k i s) e g y h = (for_still t p n b F e g h.0, h.1, sub_still t (rows i).location s h.2, λ j l. f6_still t (rows j) (h.3 j l), λ j l. f1_still t (rows j) (h.4 j l))
  ph_still t p n b (second_collect F rows k f i s) e g y h = (for_still t p n b F e g h.0, h.1, sub_still t (rows i).location s h.2, h.3, eff_still t p n b F f g h.4)
  ph_still t p n b (second_id F rows k f i) e g y h = (for_still t p n b F e g h.0, h.1, h.2, h.3, (eff_still t p n b F f g h.4.0, (let l = h.4.1 in omega arith)))
  ph_still t p n b (swap a x u v t8 rows k f) e g y h = (k_still e g h.0, λ l. e_still g (h.1 l), h.2)

  pub still : (t p : ℕ) (r : Process V) → (W (suc t)).saved p ≡ (W t).saved p → Goes t p → Hush t p → PInv t p r → PInv (suc t) p r
  still t p (proc n l b ph) e g y i = (link_still t p n l (spares t p g) i.0, ph_still t p n b ph e g y i.1, later b t i.2)

  pub sub_saved : (p : ℕ) {q : ℕ} {w w' : World V} {a : ℕ} {s : ReadPhase V} {e : Event V} {o : ReadTurn V} → ReadLine w q a s e o → w' ≡ after e w → w'.saved p ≡ w.saved p
  sub_saved p (line_13_value v x) q = ap (λ w. w.saved p) q
  sub_saved p (line_13_id k x) q = ap (λ w. w.saved p) q
  sub_saved p (line_1_value v x) q = ap (λ w. w.saved p) q
  sub_saved p (line_1_id k x) q = ap (λ w. w.saved p) q
  sub_saved p (line_3a k v x) q = ap (λ w. w.saved p) q
  sub_saved p (line_3b_yes k v x) q = ap (λ w. w.saved p) q
  sub_saved p (line_3b_no k v x) q = ap (λ w. w.saved p) q

  pub clear_now : (t p : ℕ) → Goes t p → Clear p t (suc t)
  clear_now t p g c h l w = let e : c ≡ t = omega arith in ap R.out e ∙ g (ap R.who (sym e) ∙ w)

  -- the effect of a SNAPSHOT is now
  pub eff_now : (t p n b : ℕ) (F : Purpose V) (l : Option ℕ) → (W t).tag p ≡ n → (W t).stage p ≡ purpose_stage F l → IsLineOf R t p → Goes t p → b ≤ t → ForInv t p n b F → EffInv (suc t) p n b F t
  eff_now t p n b solo l g s w o y i = (omega arith, w, clear_now t p o, y)
  eff_now t p n b (inside a x u v t8) l g s w o y i = record { early = omega arith; stood = s; tagf = g; savedf = i.keeps; minef = w; clearf = clear_now t p o; begunf = y }

  pub eff_past : (t p n b : ℕ) (F : Purpose V) (f : ℕ) → EffInv t p n b F f → f < suc t
  eff_past t p n b solo f i = let h = i.0 in omega arith
  eff_past t p n b (inside a x u v t8) f i = let h = i.early in omega arith

  pub to_9 : (t f : ℕ) (r : Row V) → f ≤ t → F1 (suc f) r → F9 f (with_id_second r ((W t).tid r.location))
  to_9 t f r h i = (i.0, i.1, t, i.2, (let k = i.3 in omega arith), h, i.4, i.5, refl)
