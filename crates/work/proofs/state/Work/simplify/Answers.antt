use Rattle.std.proofs.Common.{◌≡◌, length, Err, sym, subst, rules}
use Rattle.rules.specs.Calls.{const_answer}
use Rattle.work.specs.Shown.{Leads}
use Rattle.work.proofs.Answering.{simplifying, refused_rules, refused_words, bve_never, subsume_never, done}
use Rattle.work.proofs.Reaching.{all_gone, small_turns}
use Rattle.work.proofs.state.Work.simplify.Goals as goal

pub returns-in_err-const_simplify : goal.returns-in_err-const_simplify
returns-in_err-const_simplify g c =
    let meaning = g.S.Lists.meaning in
    let n = length c.args.words.now in
    let m = length c.args.out.now in
    let s = c.args.self.now.simplifier in
    let w = c.const_simplify.new.self in
    let f = c.in_err-const_simplify.field-0.0 in
    let L = c.in_err-const_simplify.ensures.rules in
    let q : c.from_residual.result ≡ Err f = search rules in
    record {
      rules = subst (Leads meaning (simplifying n m) s w.simplifier) (sym q) (refused_rules meaning n s w.simplifier m f L);
      words = λ W T. refused_words meaning n s w.simplifier m f L W T c.args.out.now;
      image = search rules;
      keeps = search rules;
      gone = all_gone meaning w.image.now w.simplifier w.reached;
      turns = λ W T. small_turns meaning w.image.now w.simplifier w.reached (const_answer n W).0 (L.work W T);
      faithful = search rules;
      refused = search rules;
    }

pub returns-in_err-bve_simplify : goal.returns-in_err-bve_simplify
returns-in_err-bve_simplify g c =
    absurd (bve_never _ _ _ _ _ _ c.args.self.now.reached c.in_ok-const_simplify.ensures.rules c.in_ok-const_simplify.ensures.keeps
    _ c.const_simplify.auto.words _ _ c.in_err-bve_simplify.ensures.rules)

pub returns-in_err-subsume_simplify : goal.returns-in_err-subsume_simplify
returns-in_err-subsume_simplify g c =
    absurd (subsume_never _ _ _ _ _ _ c.args.self.now.reached c.in_ok-const_simplify.ensures.rules c.in_ok-const_simplify.ensures.keeps
    _ c.const_simplify.auto.words _ _ c.in_ok-bve_simplify.ensures.rules c.in_ok-bve_simplify.ensures.keeps
    _ c.bve_simplify.auto.words _ _ c.in_err-subsume_simplify.ensures.rules)

pub returns : goal.returns
returns g c =
    let meaning = g.S.Lists.meaning in
    let w₁ = c.const_simplify.new.self in
    let w₃ = c.subsume_simplify.new.self in
    let L = c.in_ok-const_simplify.ensures.rules in
    let D = done _ _ _ _ _ _ c.args.self.now.reached L c.in_ok-const_simplify.ensures.keeps
    _ c.const_simplify.auto.words _ _ c.in_ok-bve_simplify.ensures.rules c.in_ok-bve_simplify.ensures.keeps
    _ _ c.bve_simplify.auto.words _ _ c.in_ok-subsume_simplify.ensures.rules
    c.finalize.result c.args.out.now c.finalize.new.out c.finalize.ensures.answer c.finalize.ensures.words in
    record {
      rules = D.0;
      words = D.1;
      image = search rules;
      keeps = search rules;
      gone = all_gone meaning w₃.image.now w₃.simplifier w₃.reached;
      turns = λ W T. small_turns meaning w₁.image.now w₁.simplifier w₁.reached (const_answer (length c.args.words.now) W).0 (L.work W T);
      faithful = search rules;
      refused = search rules;
    }
