use Rattle.std.proofs.Common.{◌∙◌, sym}
use Rattle.cv_valuation.proofs.Beginning.{put_none, put_some}
use Rattle.cv_valuation.proofs.valuation.Valuation.put_initial.Goals as goal

pub returns-in_ok-value-in-Some : goal.returns-in_ok-value-in-Some
returns-in_ok-value-in-Some c =
    put_some c.table_is_found.ensures c.args.number c.in-Some.property (sym c.numbered.ensures ∙ c.in-Some.is) c.in_ok-value-in-Some.value c.in_ok-value-in-Some.ensures c.put.result c.args.self.now c.put.new.self c.put.ensures.ok

pub returns-in-None : goal.returns-in-None
returns-in-None c key = put_none c.table_is_found.ensures c.args.number (sym c.numbered.ensures ∙ c.in-None.is) c.args.self.now key
