use Rattle.std.proofs.Common.{◌≡◌, ℕ, List, Err, ap, ◌∙◌}
use Rattle.std.proofs.lemmas.Result.{err_from_is_err_and}
use Rattle.intake.proofs.Steps.{node_cut, node_order, node_owner, node_rows, node_right}
use Rattle.network.specs.Clauses.{in_order, owned}
use Rattle.image.specs.Faults.{fault}
use Rattle.image.specs.Runs.{clauses_pass}
use Rattle.image.specs.declared.fault.Fault.{Fault}
use Rattle.intake.proofs.check.check_node.Goals as goal

-- the test of the order, and that of the owner, with the fault that they are given
ordered : (n : ℕ) (ws : List ℕ) (f : Fault) → f ≡ fault 3 n → clauses_pass in_order f n ws ≡ clauses_pass in_order (fault 3 n) n ws
ordered n ws f e = ap (λ (g : Fault). clauses_pass in_order g n ws) e

placed : (n : ℕ) (ws : List ℕ) (f : Fault) → f ≡ fault 4 n → clauses_pass (owned n) f n ws ≡ clauses_pass (owned n) (fault 4 n) n ws
placed n ws f e = ap (λ (g : Fault). clauses_pass (owned n) g n ws) e

pub returns-in_err-count : goal.returns-in_err-count
returns-in_err-count c =
    let p = err_from_is_err_and c.from_residual.result c.from_residual.ensures.1 in
    p.1 ∙ ap Err p.2 ∙ node_cut c.args.run.node c.args.run.words.now _ c.in_err-count.ensures

pub returns-in_err-check_clauses : goal.returns-in_err-check_clauses
returns-in_err-check_clauses c =
    let p = err_from_is_err_and c.from_residual-in_err-check_clauses.result c.from_residual-in_err-check_clauses.ensures.1 in
    p.1 ∙ ap Err p.2 ∙ node_order c.args.run.node c.args.run.words.now _ c.in_ok-count.ensures _ (c.in_err-check_clauses.ensures ∙ ordered c.args.run.node c.args.run.words.now _ c.at.ensures)

pub returns-in_err-check_clauses-2 : goal.returns-in_err-check_clauses-2
returns-in_err-check_clauses-2 c =
    let p = err_from_is_err_and c.from_residual-in_err-check_clauses-2.result c.from_residual-in_err-check_clauses-2.ensures.1 in
    p.1 ∙ ap Err p.2 ∙ node_owner c.args.run.node c.args.run.words.now _ c.in_ok-count.ensures _ _ (c.in_ok-check_clauses.ensures ∙ ordered c.args.run.node c.args.run.words.now _ c.at.ensures) (c.in_err-check_clauses-2.ensures ∙ placed c.args.run.node c.args.run.words.now _ c.at-2.ensures)

pub returns-in_err-check_rows : goal.returns-in_err-check_rows
returns-in_err-check_rows c =
    let p = err_from_is_err_and c.from_residual-in_err-check_rows.result c.from_residual-in_err-check_rows.ensures.1 in
    p.1 ∙ ap Err p.2 ∙ node_rows c.args.run.node c.args.run.words.now _ c.in_ok-count.ensures _ _ _ (c.in_ok-check_clauses.ensures ∙ ordered c.args.run.node c.args.run.words.now _ c.at.ensures) (c.in_ok-check_clauses-2.ensures ∙ placed c.args.run.node c.args.run.words.now _ c.at-2.ensures) c.in_err-check_rows.ensures

pub returns : goal.returns
returns c = node_right c.args.run.node c.args.run.words.now _ c.in_ok-count.ensures _ _ _ (c.in_ok-check_clauses.ensures ∙ ordered c.args.run.node c.args.run.words.now _ c.at.ensures) (c.in_ok-check_clauses-2.ensures ∙ placed c.args.run.node c.args.run.words.now _ c.at-2.ensures) c.in_ok-check_rows.ensures
