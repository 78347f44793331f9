-- The store at each time: at each location it has what the location stands for, or the new value of a yes under way.
use Rattle.std.proofs.Common.{◌≡◌, ℕ, zero, suc, ◌<◌, ◌≤◌, ◌⊎◌, List, sym, refl, ap, ◌∙◌, inl, inr, arith}
use mathlib.Core.Option.{Option, some, none}
use native.Mathlib.Decide.{ℕ_discrete}
use Rattle.memory.specs.declared.cell.Cell.TheVariants.{Value}
use Rattle.protocol.specs.World.{World, changed, Stands}
use Rattle.protocol.specs.Events.Event.{commit}
use Rattle.protocol.specs.History.{History}
use Rattle.protocol.specs.Operations.{Finished}
use Rattle.protocol.specs.Lists.{◌∈◌, by_effect}
use Rattle.protocol.specs.Store.{Store, opened_store}
use Rattle.protocol.specs.Replay.{Change, change, change_values, store_after}
use Rattle.protocol.specs.Replay.Change.{nothing, set}
use Rattle.protocol.specs.Past.{Calm}
use Rattle.protocol.specs.Seen.{Seen}
use Rattle.protocol.specs.Certified.{Owner, Certified}
use Rattle.protocol.proofs.Changes.{clash, changed_here, changed_else, one_process}
use Rattle.protocol.proofs.Views.{commit_can, commit_does}
use Rattle.protocol.proofs.Tids.{same_tid_calm}
use Rattle.protocol.proofs.Values.{stands_once, stands_on}
use Rattle.protocol.proofs.Attempts.{Armed}
use Rattle.protocol.proofs.Listing.{order_all, order_only, find, found, missing}
use Rattle.protocol.proofs.Spans.{Sets, in_time, spans, armed_at, meet, by_its_effect}

abbrev pub feed : {V : Type 0} → Option (Finished V) → Store V → Store V
feed none s = s
feed (some o) s = store_after o s

-- the store after the operations that take effect before t
abbrev pub replayed : {V : Type 0} → (ℕ → V) → (ℕ → Option (Finished V)) → ℕ → Store V
replayed initial log zero = opened_store initial
replayed initial log (suc t) = feed (log t) (replayed initial log t)

module _ {V : Type 0} (H : History V) (ended : List (Finished V)) (C : Certified H ended) where
  abbrev W : ℕ → World V
  W t = H.at t

  -- the operation that takes effect at t
  abbrev pub log : ℕ → Option (Finished V)
  log t = find t (by_effect ended)

  abbrev pub S : ℕ → Store V
  S t = replayed H.initial log t

  pub logged : (t : ℕ) (o : Finished V) → log t ≡ some o → (o ∈ ended) × (o.effect ≡ t)
  logged t o e = let d = found t (by_effect ended) o e in (order_only ended o d.0, d.1)

  pub unlogged : (t : ℕ) → log t ≡ none → (o : Finished V) → o ∈ ended → o.effect ≡ t → ⊥
  unlogged t e o m = missing t (by_effect ended) e o (order_all ended o m)

  -- a yes that sets a has taken effect and not yet committed: the store has its new value already
  record Pending (t a : ℕ) : Type 0 where
    o : Finished V
    new : V
    sets : Sets ended o a new
    begun : o.effect < t
    open_yet : t ≤ o.last
    holds : (S t).value a ≡ new

  -- no yes that sets a is under way: the store has what a stands for
  record Settled (t a : ℕ) : Type 0 where
    stands : Stands (W t) a ((S t).value a)
    none_open : (o : Finished V) (new : V) → Sets ended o a new → o.effect < t → t ≤ o.last → ⊥

  abbrev Good : ℕ → ℕ → Type 0
  Good t a = Pending t a ⊎ Settled t a

  -- step t is the effect of a yes at a, or the store keeps a
  abbrev Turn : ℕ → ℕ → Type 0
  Turn t a = ((o : Finished V) × (new : V) × Sets ended o a new × (o.effect ≡ t) × ((S (suc t)).value a ≡ new))
      ⊎ (((o : Finished V) (new : V) → Sets ended o a new → o.effect ≡ t → ⊥) × ((S (suc t)).value a ≡ (S t).value a))

  turn : (t a : ℕ) → Turn t a
  turn t a = by_log (log t) refl
    where
      by_change : (o : Finished V) → (o ∈ ended) × (o.effect ≡ t) → (y : Change V) → change o.request o.answer ≡ y → (S (suc t)).value a ≡ change_values y (S t).value a → Turn t a
      by_change o k nothing f m =
          inr (
            λ o' v d h. (let x : o' ≡ o = by_its_effect H ended C o' o d.0 k.0 (h ∙ sym k.1) in
                let g = ap (λ (z : Finished V). change z.request z.answer) x in clash (cc d.1)),
            m,
          )
      by_change o k (set b new) f m =
          elim (ℕ_discrete a b) [
            | yes i ↦ inl (o, new, (k.0, f ∙ (cc)), k.1, m ∙ ap (changed (S t).value b new) i ∙ changed_here (S t).value b new)
            | no i ↦ inr (
              λ o' v d h. (let x : o' ≡ o = by_its_effect H ended C o' o d.0 k.0 (h ∙ sym k.1) in
                  let g = ap (λ (z : Finished V). change z.request z.answer) x in let j : a ≡ b = cc d.1 in absurd (i j)),
              m ∙ changed_else (S t).value b new a i,
            )
          ]

      by_log : (x : Option (Finished V)) → log t ≡ x → Turn t a
      by_log none e = inr (λ o v d. unlogged t e o d.0, ap (λ x. (feed x (S t)).value a) e)
      by_log (some o) e = by_change o (logged t o e) (change o.request o.answer) refl (ap (λ x. (feed x (S t)).value a) e)

  -- none is open after the last step of a yes that was
  none_after : (t a : ℕ) (o : Finished V) (v : V) → Sets ended o a v → o.last ≡ t
      → (o' : Finished V) (v' : V) → Sets ended o' a v' → o'.effect < suc t → suc t ≤ o'.last → ⊥
  none_after t a o v d k o' v' d' h' k' =
      let h = in_time H ended C o d.0 in
      let l = ap (λ (z : Finished V). z.last) (meet H ended C t o o' a v v' d d' (omega arith) (omega arith) (omega arith) (omega arith)) in
      omega arith

  good_step : (t a : ℕ) → Good t a → Good (suc t) a
  good_step t a g = by_turn (turn t a)
    where
      after_commit : (o : Finished V) (v : V) → Sets ended o a v → o.last ≡ t → Stands (W (suc t)) a v
      after_commit o v d k = inl (commit_does H t o.process a v (ap H.event (sym k) ∙ (spans H ended C o a v d).commits)).0

      -- no yes at a takes effect here
      calm : ((o : Finished V) (v : V) → Sets ended o a v → o.effect ≡ t → ⊥) → (S (suc t)).value a ≡ (S t).value a → Good t a → Good (suc t) a
      calm no-set m (inl p) =
          elim (ℕ_discrete p.o.last t) [
            | yes k ↦ inr (record {
              stands = rw (m ∙ p.holds) (after_commit p.o p.new p.sets k);
              none_open = none_after t a p.o p.new p.sets k;
            })
            | no k ↦ inl (record {
              o = p.o;
              new = p.new;
              sets = p.sets;
              begun = (let h = p.begun in omega arith);
              open_yet = (let h = p.open_yet in omega arith);
              holds = m ∙ p.holds;
            })
          ]
      calm no-set m (inr q) = inr (record { stands = rw m (still (stands_on H t a ((S t).value a) q.stands)); none_open = none_yet })
        where
          none_yet : (o : Finished V) (v : V) → Sets ended o a v → o.effect < suc t → suc t ≤ o.last → ⊥
          none_yet o v d h k = elim (ℕ_discrete o.effect t) [ yes i ↦ no-set o v d i | no i ↦ q.none_open o v d (omega arith) (omega arith) ]

          by_owner : (p : ℕ) (u : V) → H.event t ≡ commit p a u → ((W t).saved p ≡ Value u) ⊎ Owner ended t p a u → Stands (W (suc t)) a ((S t).value a)
          by_owner p u c (inl r) =
              let x : u ≡ (S t).value a = stands_once H t a u ((S t).value a) (inr (p, (W t).tag p, (commit_can H t p a u c).1, r)) q.stands in
              inl ((commit_does H t p a u c).0 ∙ ap Value x)
          by_owner p u c (inr w) = absurd (
              let h = in_time H ended C w.done w.is_listed in
              let k = w.ends_there in
              elim (ℕ_discrete w.done.effect t) [
                | yes i ↦ no-set w.done u (w.is_listed, w.sets) i
                | no i ↦ q.none_open w.done u (w.is_listed, w.sets) (omega arith) (omega arith)
              ])

          still : Stands (W (suc t)) a ((S t).value a) ⊎ ((p : ℕ) × (u : V) × (H.event t ≡ commit p a u)) → Stands (W (suc t)) a ((S t).value a)
          still (inl k) = k
          still (inr d) = by_owner d.0 d.1 d.2 (C.owned t d.0 a d.1 d.2)

      by_turn : Turn t a → Good (suc t) a
      by_turn (inl d) =
          let h = in_time H ended C d.0 d.2.0 in
          let f = d.3 in
          elim (ℕ_discrete d.0.last t) [
            | yes k ↦ inr (record {
              stands = rw d.4 (after_commit d.0 d.1 d.2 k);
              none_open = none_after t a d.0 d.1 d.2 k;
            })
            | no k ↦ inl (record { o = d.0; new = d.1; sets = d.2; begun = omega arith; open_yet = omega arith; holds = d.4 })
          ]
      by_turn (inr d) = calm d.0 d.1 g

  good : (t a : ℕ) → Good t a
  good zero a = inr (record { stands = inl (H.opened.vals a); none_open = λ o v d h k. absurd (omega arith) })
  good (suc t) a = good_step t a (good t a)

  -- what is seen at a calm location is what the store has
  pub told : (t a : ℕ) (v : V) → Calm (W t) a v → (S t).value a ≡ v
  told t a v c = go c (good t a)
    where
      go : Calm (W t) a v → Good t a → (S t).value a ≡ v
      go (inl m) (inr q) = stands_once H t a ((S t).value a) v q.stands (inl m)
      go (inr d) (inr q) = stands_once H t a ((S t).value a) v q.stands (inr (d.0, d.1, d.2, d.4))
      go (inl m) (inl p) = let k = armed_at H ended C p.o a p.new p.sets t (let h = p.begun in omega arith) p.open_yet in clash (cc k.in_val)
      go (inr d) (inl p) =
          let k = armed_at H ended C p.o a p.new p.sets t (let h = p.begun in omega arith) p.open_yet in
          let z : d.0 ≡ p.o.process = one_process ((W t).val a) d.0 p.o.process d.1 ((W p.o.last).tag p.o.process) d.2 k.in_val in
          clash (cc (k.stands, d.3))

  pub seen_told : (t a : ℕ) (v : V) → Seen H t a v → (S t).value a ≡ v
  seen_told t a v c = told t a v (same_tid_calm H c.tid_look c.value_look t c.tid_look_again a v c.tid_first c.value_next c.tid_last c.found c.same_tid)

  -- the value that an armed yes saved is what the store has at its effect
  pub saved_told : (o : Finished V) (a : ℕ) (new v : V) → Sets ended o a new → (W o.effect).saved o.process ≡ Value v → (S o.effect).value a ≡ v
  saved_told o a new v d r = go (good o.effect a)
    where
      k : Armed (W o.effect) o.process a ((W o.last).tag o.process)
      k = armed_at H ended C o a new d o.effect (omega arith) (in_time H ended C o d.0)

      go : Good o.effect a → (S o.effect).value a ≡ v
      go (inr q) = stands_once H o.effect a ((S o.effect).value a) v q.stands (inr (o.process, (W o.last).tag o.process, k.in_val, r))
      go (inl p) =
          let h = p.begun in
          let l = ap (λ (z : Finished V). z.effect) (meet H ended C o.effect p.o o a p.new new p.sets d (omega arith) p.open_yet (omega arith) (in_time H ended C o d.0)) in
          absurd (omega arith)

  -- where no commit comes any more, the store has what the location stands for
  pub settles : (n a : ℕ) → ((t p : ℕ) (v : V) → n ≤ t → H.event t ≡ commit p a v → ⊥) → Stands (W n) a ((S n).value a)
  settles n a q = go (good n a)
    where
      go : Good n a → Stands (W n) a ((S n).value a)
      go (inl p) = absurd (q p.o.last p.o.process p.new p.open_yet (spans H ended C p.o a p.new p.sets).commits)
      go (inr s) = s.stands
