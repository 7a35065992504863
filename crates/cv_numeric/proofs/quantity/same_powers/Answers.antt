use Rattle.std.specs.Prelude.{true}
use Rattle.std.proofs.Common.{rules, ◌≡◌, refl}
use Rattle.cv_calc.specs.Types.{if_equal}
use Rattle.cv_numeric.proofs.Powers.{passed}
use Rattle.cv_numeric.proofs.quantity.same_powers.Goals as goal

pub returns : goal.returns
returns c =
    let percent_is : c.if_equal-percent.result ≡ if_equal c.args.s.percent c.args.t.percent true = passed c.if_equal-percent.result true (true) c.args.s.percent c.args.t.percent (search rules) (search rules) refl c.if_equal-percent.ensures in
    let flex_is : c.if_equal-flex.result ≡ if_equal c.args.s.flex c.args.t.flex (if_equal c.args.s.percent c.args.t.percent true) = passed c.if_equal-flex.result c.if_equal-percent.result (if_equal c.args.s.percent c.args.t.percent true) c.args.s.flex c.args.t.flex (search rules) (search rules) percent_is c.if_equal-flex.ensures in
    let resolution_is : c.if_equal-resolution.result ≡ if_equal c.args.s.resolution c.args.t.resolution (if_equal c.args.s.flex c.args.t.flex (if_equal c.args.s.percent c.args.t.percent true)) = passed c.if_equal-resolution.result c.if_equal-flex.result (if_equal c.args.s.flex c.args.t.flex (if_equal c.args.s.percent c.args.t.percent true)) c.args.s.resolution c.args.t.resolution (search rules) (search rules) flex_is c.if_equal-resolution.ensures in
    let frequency_is : c.if_equal-frequency.result ≡ if_equal c.args.s.frequency c.args.t.frequency (if_equal c.args.s.resolution c.args.t.resolution (if_equal c.args.s.flex c.args.t.flex (if_equal c.args.s.percent c.args.t.percent true))) = passed c.if_equal-frequency.result c.if_equal-resolution.result (if_equal c.args.s.resolution c.args.t.resolution (if_equal c.args.s.flex c.args.t.flex (if_equal c.args.s.percent c.args.t.percent true))) c.args.s.frequency c.args.t.frequency (search rules) (search rules) resolution_is c.if_equal-frequency.ensures in
    let time_is : c.if_equal-time.result ≡ if_equal c.args.s.time c.args.t.time (if_equal c.args.s.frequency c.args.t.frequency (if_equal c.args.s.resolution c.args.t.resolution (if_equal c.args.s.flex c.args.t.flex (if_equal c.args.s.percent c.args.t.percent true)))) = passed c.if_equal-time.result c.if_equal-frequency.result (if_equal c.args.s.frequency c.args.t.frequency (if_equal c.args.s.resolution c.args.t.resolution (if_equal c.args.s.flex c.args.t.flex (if_equal c.args.s.percent c.args.t.percent true)))) c.args.s.time c.args.t.time (search rules) (search rules) frequency_is c.if_equal-time.ensures in
    let angle_is : c.if_equal-angle.result ≡ if_equal c.args.s.angle c.args.t.angle (if_equal c.args.s.time c.args.t.time (if_equal c.args.s.frequency c.args.t.frequency (if_equal c.args.s.resolution c.args.t.resolution (if_equal c.args.s.flex c.args.t.flex (if_equal c.args.s.percent c.args.t.percent true))))) = passed c.if_equal-angle.result c.if_equal-time.result (if_equal c.args.s.time c.args.t.time (if_equal c.args.s.frequency c.args.t.frequency (if_equal c.args.s.resolution c.args.t.resolution (if_equal c.args.s.flex c.args.t.flex (if_equal c.args.s.percent c.args.t.percent true))))) c.args.s.angle c.args.t.angle (search rules) (search rules) time_is c.if_equal-angle.ensures in
    passed c.if_equal.result c.if_equal-angle.result (if_equal c.args.s.angle c.args.t.angle (if_equal c.args.s.time c.args.t.time (if_equal c.args.s.frequency c.args.t.frequency (if_equal c.args.s.resolution c.args.t.resolution (if_equal c.args.s.flex c.args.t.flex (if_equal c.args.s.percent c.args.t.percent true)))))) c.args.s.length c.args.t.length (search rules) (search rules) angle_is c.if_equal.ensures
