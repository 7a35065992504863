-- Where the same is told of elements, their objects are the same.
use Rattle.std.proofs.Common.{◌≡◌, ℕ, ◌+◌, List, [], ◌∷◌, ◌++◌, refl, ◌∙◌, ap}
use Rattle.std.specs.List.{AllZip, enumerate_from, flat_map, zip}
use Rattle.cv_valuation.specs.declared.computed.Computed.{Computed}
use Rattle.cv_valuation.specs.declared.key.Key.{Key}
use Rattle.cv_valuation.specs.Valuations.{Values, outcome_at}
use Rattle.cv_props.specs.Winners.{Declarations, declaration_of}
use Rattle.cv_spec_valuation.specs.Single.{TellsTheSame}
use Rattle.cv_reify_report.specs.Report.{computed_line, declared_lines, element_text, elements_text}

element_same : (shown : List Key) (element : ℕ) (declared : Declarations) (one other : Computed) → TellsTheSame one other
    → element_text shown (element, (declared, other)) ≡ element_text shown (element, (declared, one))
element_same shown element declared one other same =
    ap (λ (values : Values). flat_map (λ key. declared_lines element key (declaration_of declared key) ++ computed_line element key (outcome_at values key)) shown) same.values

objects_from : (shown : List Key) (element : ℕ) (declarations : List Declarations) (all others : List Computed) → AllZip TellsTheSame all others
    → flat_map (element_text shown) (enumerate_from element (zip declarations others)) ≡ flat_map (element_text shown) (enumerate_from element (zip declarations all))
objects_from shown element [] all others same = refl
objects_from shown element (declared ∷ declarations) [] [] same = refl
objects_from shown element (declared ∷ declarations) [] (other ∷ others) same = absurd same
objects_from shown element (declared ∷ declarations) (one ∷ all) [] same = absurd same
objects_from shown element (declared ∷ declarations) (one ∷ all) (other ∷ others) same =
    ap (λ text. text ++ flat_map (element_text shown) (enumerate_from (element + 1) (zip declarations others))) (element_same shown element declared one other same.0)
    ∙ ap (λ text. element_text shown (element, (declared, one)) ++ text) (objects_from shown (element + 1) declarations all others same.1)

pub objects_same : (shown : List Key) (declarations : List Declarations) (all others : List Computed) → AllZip TellsTheSame all others
    → elements_text shown declarations others ≡ elements_text shown declarations all
objects_same shown declarations all others same = objects_from shown 0 declarations all others same
