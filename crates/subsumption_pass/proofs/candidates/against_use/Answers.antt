use Rattle.std.proofs.Common.{◌≡◌, ◌+◌, drop, refl, ⊎_elim, Option}
use Rattle.rules.specs.Store.{Meaning}
use Rattle.subsumption_pass.specs.declared.meetings.Met.TheVariants.{Lost}
use Rattle.subsumption_pass.proofs.Refs.{uses_follow}
use Rattle.subsumption_pass.proofs.Steps.{past_dead, ends_lost, passes, meets_counts, from_use, use_there}
use Rattle.subsumption_pass.proofs.candidates.against_use.Goals as goal

pub returns-in_default-clause-goes : goal.returns-in_default-clause-goes
returns-in_default-clause-goes g c x n l i u h a =
    let M = g.S.Lists.meaning c.args.s.now in
    past_dead c.args.one l i (λ (M : Meaning). drop n (M.uses x)) (λ (M : Meaning). drop (n + 1) (M.uses x)) M (g.S.Lists.at c.args.s.now) a (from_use M x n _ h (c.in_default.ensures x n u))

pub meet-requires-clause-other : goal.meet-requires-clause-other
meet-requires-clause-other g c =
    let M = g.S.Lists.meaning c.args.s.now in
    let (x, p) = c.requires.usage in let (n, q) = p in let (u, h) = q in
    let (k, j, b, e) = c.in-Some.ensures x n u in
    (k, (j, (b, use_there M (g.met.S.Lists.lawful c.args.s.now) x n k j h e)))

pub returns-in-Lost-clause-goes : goal.returns-in-Lost-clause-goes
returns-in-Lost-clause-goes g c x n l i u h a =
    let M = g.S.Lists.meaning c.args.s.now in
    let (k, j, b, e) = c.in-Some.ensures x n u in
    ends_lost c.args.one l i (λ (M : Meaning). drop n (M.uses x)) (λ (M : Meaning). drop (n + 1) (M.uses x)) M (g.S.Lists.at c.meet.new.s) c.in-Some.other k j _ (g.S.Lists.meaning c.meet.new.s)
    (from_use M x n _ h e) c.in-Lost.next (c.in-Lost.ensures.meets l i k j a (b, use_there M (g.met.S.Lists.lawful c.args.s.now) x n k j h e))

pub returns-in-Stays : goal.returns-in-Stays
returns-in-Stays g c =
    let M = g.S.Lists.meaning c.args.s.now in
    let d = λ (o : Option g.row.S-Handle.Denot) (e : c.meet.result ≡ Lost o). ⊎_elim (λ p. cc) (λ (q, p). cc) c.in-Stays.is in
    record {
      goes = λ x n l i u h a.
          let (k, j, b, e) = c.in-Some.ensures x n u in
          let lj = use_there M (g.met.S.Lists.lawful c.args.s.now) x n k j h e in
          passes c.args.one l i (λ (M : Meaning). drop n (M.uses x)) (λ (M : Meaning). drop (n + 1) (M.uses x)) M (g.S.Lists.at c.meet.new.s) c.in-Some.other k j _ (g.S.Lists.meaning c.meet.new.s)
          (from_use M x n _ h e) c.meet.result (c.meet.ensures.meets l i k j a (b, lj)) d lj (uses_follow x (n + 1)) refl;
      keeps = c.meet.ensures.keeps;
      counts = let (l, p) = c.requires.live in let (i, a) = p in
          let (x, q) = c.requires.usage in let (n, w) = q in
          let (k, j, b, e) = c.in-Some.ensures x n w.0 in
          meets_counts (g.S.Lists.at c.meet.new.s) c.args.one c.in-Some.other l i k j M (g.S.Lists.meaning c.meet.new.s) c.meet.result (c.meet.ensures.meets l i k j a (b, use_there M (g.met.S.Lists.lawful c.args.s.now) x n k j w.1 e)) d;
      around = c.meet.ensures.around;
    }
