-- Simplification keeps the type.
use Rattle.std.specs.Prelude.{true, Some}
use Rattle.std.proofs.Common.{◌≡◌, sym, ◌∙◌}
use Rattle.cv_calc.specs.declared.context.Basis.{Basis}
use Rattle.cv_calc.specs.declared.context.Basis.TheVariants.{Plain, Length, Of}
use Rattle.cv_calc.specs.declared.context.Context.{Context}
use Rattle.cv_calc.specs.declared.calc.Calc.{Calc}
use Rattle.cv_calc.specs.Types.{type_of}
use Rattle.cv_calc.specs.Linear.{is_linear}
use Rattle.cv_simplify.specs.Simplified.{simp}
use Rattle.cv_simplify.specs.TypeIn.{unit_type_with_lengths, type_with_lengths, type_in}
use Rattle.cv_simplify.proofs.Measures.{Kind}
use Rattle.cv_simplify.proofs.KindTypes.{kind_type}
use Rattle.cv_simplify.proofs.TreeKinds.{kind, typed}
use Rattle.cv_simplify.proofs.UnitKinds.{unit_kind_in, unit_kind_with_lengths, unit_typed_with_lengths}
use Rattle.cv_simplify.proofs.LinearKinds.{kind_typed, linear_kind}
use Rattle.cv_simplify.proofs.KindsKept.{kind_kept}

lengths_typed : (c : Calc) (k : Kind) → kind unit_kind_with_lengths c ≡ Some k → type_with_lengths c ≡ kind_type k
unfolding type_with_lengths
lengths_typed c k e = typed unit_kind_with_lengths unit_type_with_lengths unit_typed_with_lengths c k e

kind_typed_in : (b : Basis) (c : Calc) (k : Kind) → kind (unit_kind_in b) c ≡ Some k → type_in b c ≡ kind_type k
kind_typed_in Plain c k e = kind_typed c k e
kind_typed_in Length c k e = kind_typed c k e
kind_typed_in (Of f) c k e = lengths_typed c k e

pub type_kept : (x : Context) (c : Calc) → is_linear c ≡ true → type_of (simp x c) ≡ type_in x.basis c
type_kept x c linear =
    let found = linear_kind x.basis c linear in
    kind_typed (simp x c) found.0 (kind_kept x c found.0 found.1) ∙ sym (kind_typed_in x.basis c found.0 found.1)
