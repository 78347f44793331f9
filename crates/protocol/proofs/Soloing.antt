-- In a run every process goes on, and what it was asked without repeats it finishes alone.
use Rattle.std.proofs.Common.{◌≡◌, ℕ, zero, suc, List, sym, ap, ◌∙◌, subst, inl, inr}
use mathlib.Core.Option.{Option, some, none}
use native.Mathlib.Decide.{ℕ_discrete}
use Rattle.protocol.specs.World.{changed}
use Rattle.protocol.specs.Events.{Event}
use Rattle.protocol.specs.Operations.{Request}
use Rattle.protocol.specs.Phases.{Process, Done, asked}
use Rattle.protocol.specs.Phases.Done.{done}
use Rattle.protocol.specs.Lines.{Line}
use Rattle.protocol.specs.Runs.{Machine, world, Given, Begun, Call, Run}
use Rattle.protocol.specs.Runs.Begun.{no_more, and_then}
use Rattle.protocol.specs.Runs.Call.{steps, pauses}
use Rattle.protocol.specs.Solo.{Fits}
use Rattle.protocol.specs.Asked.{NoRepeat}
use Rattle.protocol.specs.Going.{LinesGoOn}
use Rattle.protocol.specs.Sound.{Sound, EndsWithin}
use Rattle.protocol.specs.Finishes.{RunsFinish}
use Rattle.protocol.specs.Unaided.{RunsFinishAlone}
use Rattle.protocol.proofs.Changes.{clash, changed_here, changed_else}
use Rattle.protocol.proofs.Opening.{asks}
use Rattle.protocol.proofs.Asking.{keeps}
use Rattle.protocol.proofs.Giving.{was_given}
use Rattle.protocol.proofs.Fitting.{asked_bounds}
use Rattle.protocol.proofs.Proceeding.{goes, goes_on, finishes_alone}
use Rattle.protocol.proofs.Backing.{begun_sound, runs_sound}

-- it fits what it was asked, if that has no repeat
abbrev Fit : {V : Type 0} → Process V → Type 0
Fit {V = V} r = (q : Request V) → asked r ≡ some q → NoRepeat q → Fits r

abbrev AllFit : {V : Type 0} → Machine V → Type 0
AllFit m = (p : ℕ) → Fit (m.processes p)

set_fit : {V : Type 0} (row : ℕ → Process V) (p : ℕ) (r : Process V) → Fit r → ((j : ℕ) → Fit (row j)) → (j : ℕ) → Fit (changed row p r j)
set_fit {V = V} row p r f h j =
    elim (ℕ_discrete j p) [
      | yes i ↦ subst (λ (x : Process V). Fit x) (sym (ap (changed row p r) i ∙ changed_here row p r)) f
      | no n ↦ subst (λ (x : Process V). Fit x) (sym (changed_else row p r j n)) (h j)
    ]

begun_fit : {V : Type 0} {t : ℕ} {m m' : Machine V} {list : List (Given V)} → Begun t m list m' → AllFit m → AllFit m'
begun_fit no_more S = S
begun_fit {V = V} {t = t} (and_then {m' = b} more p q r s) S =
    set_fit b.processes p r
    (λ x e n. let i : x ≡ q = (let h = asks s in cc) in asked_bounds.starts_fit t (b.processes p) r q s (subst (λ (y : Request V). NoRepeat y) i n))
    (begun_fit more S)

line_fit : {V : Type 0} (t p : ℕ) (m : Machine V) (e : Event V) (r : Process V) (d : Option (Done V)) → Line t p (world m) (m.processes p) e r d
    → Fit (m.processes p) → Fit r
line_fit t p m e r (some (done x a f)) l h q i n = let j = (keeps l).1 in clash (cc)
line_fit t p m e r none l h q i n = asked_bounds.lines_fit t p (world m) (m.processes p) r e l (h q (sym (keeps l) ∙ i) n)

call_fit : {V : Type 0} {t q : ℕ} {m m' : Machine V} {list : List (Given V)} {e : Event V} {d : Option (Done V)} → Call t q m m' list e d
    → AllFit m → AllFit m'
call_fit {V = V} (pauses i) S = subst (λ (x : Machine V). AllFit x) (sym i) S
call_fit {V = V} {t = t} {q = q} (steps list b u r e d l i) S =
    let h = begun_fit u S in
    subst (λ (x : Machine V). AllFit x) (sym i) (set_fit b.processes q r (line_fit t q b e r d l (h q)) h)

runs_fit : {V : Type 0} (run : Run V) (t : ℕ) → AllFit (run.at t)
runs_fit run zero = λ p q e n. let h = ap asked (run.rested p) in clash (cc)
runs_fit run (suc t) = call_fit (run.call t) (runs_fit run t)

starts_sound : {V : Type 0} (run : Run V) (t : ℕ) (list : List (Given V)) (m : Machine V) → Begun t (run.at t) list m → (p : ℕ) → Sound m p
starts_sound run t list m u p =
    let c = begun_sound u ((runs_sound run t 0).cells, λ j. (runs_sound run t j).process) in record { cells = c.0; process = c.1 p }

pub runs_finish_alone : {V : Type 0} → Discrete V → RunsFinishAlone V
runs_finish_alone d run t list m u p q a n = finishes_alone p m q (starts_sound run t list m u p) (begun_fit u (runs_fit run t) p q a n) a d

pub runs_finish : {V : Type 0} → RunsFinish V
runs_finish {V = V} d run g t list m u n p q a =
    subst (λ (N : ℕ). EndsWithin p N t m) (asked_bounds.as_asked (m.processes p) q a)
    (goes_on.finishes d t p m (starts_sound run t list m u p) (begun_fit u (runs_fit run t) p q a no_repeat))
  where
    no_repeat : NoRepeat q
    no_repeat = elim (was_given run t u p q a) [ inl w ↦ g w.0 p q w.1 | inr w ↦ n p q w ]

pub lines_go_on : {V : Type 0} → LinesGoOn V
lines_go_on d run t p a = goes d t p (world (run.at t)) ((run.at t).processes p) a (runs_sound run t p).process
