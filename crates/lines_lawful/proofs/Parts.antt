-- Operands and rows as the relation of all kinds has them, and as those of a SNAPSHOT and of a KCSS do.
use Rattle.std.proofs.Common.{◌≡◌, ℕ, Bool, ◌∷◌, List, Some, Option, sym, refl, ◌∙◌, subst, arith}
use mathlib.Core.Option as maybe
use Rattle.operation.specs.declared.kind.OperationKind.{OperationKind}
use Rattle.operation.specs.declared.kind.OperationKind.TheVariants.{Snapshot, Kcss}
use Rattle.phases.specs.declared.phase.Phase as code-phase
use Rattle.phases.specs.declared.records.Operand.{Operand}
use Rattle.protocol.specs.Phases.{Phase, Row, Rows}
use Rattle.protocol.proofs.Changes.{clash}
use Rattle.line_views.specs.View.Running.{runs}
use Rattle.line_views.specs.Steps.{Showing}
use Rattle.steps_lawful.specs.Showing as whole
use Rattle.steps_lawful.proofs.Fitting.{dropped}
use Rattle.lines_lawful.specs.Collecting.{Agree, Fits}
use Rattle.lines_lawful.specs.Single.{single}
use Rattle.lines_lawful.specs.Several.{Wanted}

-- an operand and its row
module _ {V : Type 0} {kind : OperationKind} {a b i : ℕ} {o : Operand V} {row : Row V} where
  agree_into : (kind ≡ Kcss → o.expected ≡ Some row.expected) → Agree a b i o row → whole.Agree kind a b i o row
  agree_into expected z = record {
    location = z.0;
    expected = expected;
    first_id = z.1;
    second_id = z.2;
    first = z.3;
    second = z.4;
  }

  agree_back : whole.Agree kind a b i o row → Agree a b i o row
  agree_back z = (z.location, z.first_id, z.second_id, z.first, z.second)

module _ {V : Type 0} {a b k : ℕ} {rows : Rows V} {ops : List (Operand V)} where
  -- the operands of a SNAPSHOT
  pub all_into : Fits a b rows ops k → whole.Fits Snapshot k a b rows ops
  all_into fits = record {
    count = omega (arith, fits.0);
    each = λ i o e. agree_into (λ q. clash (cc)) (fits.1 i o (dropped 0 i ops ∙ e));
  }

  pub all_back : whole.Fits Snapshot k a b rows ops → Fits a b rows ops k
  all_back fits = (omega (arith, fits.count), λ i o e. agree_back (fits.each i o (sym (dropped 0 i ops) ∙ e)))

  -- the operands of a KCSS after its first
  module _ {first : Operand V} where
    pub rest_into : Fits a b rows ops k → Wanted rows ops → whole.Fits Kcss k a b rows (first ∷ ops)
    rest_into fits want = record {
      count = omega (arith, fits.0);
      each = λ i o e. (let at = dropped 1 i (first ∷ ops) ∙ e in agree_into (λ _. want i o at) (fits.1 i o at));
    }

    pub rest_back : whole.Fits Kcss k a b rows (first ∷ ops) → Fits a b rows ops k
    rest_back fits = (omega (arith, fits.count), λ i o e. agree_back (fits.each i o (sym (dropped 1 i (first ∷ ops)) ∙ e)))

    pub wanted_back : whole.Fits Kcss k a b rows (first ∷ ops) → Wanted rows ops
    wanted_back fits i o e = (fits.each i o (sym (dropped 1 i (first ∷ ops)) ∙ e)).expected refl

-- The first operand of a KCSS, whose relation is T.
module _ {V : Type 0} (T : Showing V) {o : Operand V} {x u : V} {ops : List (Operand V)} {phase : code-phase.Phase V} {m c : ℕ} {f : Bool}
    {ph : Phase V} (ex : o.expected ≡ Some x) where
  -- It is the one of its expected value,
  pub as_single : T (runs Kcss (single o.location x o.first o.second o.first_id o.second_id ∷ ops) (Some u) phase m c f) maybe.none ph
      → T (runs Kcss (o ∷ ops) (Some u) phase m c f) maybe.none ph
  as_single =
      subst (λ (e : Option V). T (runs Kcss (record {
        location = o.location;
        expected = e;
        first = o.first;
        second = o.second;
        first_id = o.first_id;
        second_id = o.second_id;
      } ∷ ops) (Some u) phase m c f) maybe.none ph) (sym ex)

  -- and of the value that the LL found.
  pub as_found : {v : V} → o.first ≡ Some v
      → T (runs Kcss (single o.location x (Some v) o.second o.first_id o.second_id ∷ ops) (Some u) phase m c f) maybe.none ph
      → T (runs Kcss (o ∷ ops) (Some u) phase m c f) maybe.none ph
  as_found fi z =
      as_single (subst (λ (e : Option V). T (runs Kcss (single o.location x e o.second o.first_id o.second_id ∷ ops) (Some u) phase m c f) maybe.none ph) (sym fi) z)
