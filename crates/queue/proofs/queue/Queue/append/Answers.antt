use Rattle.std.proofs.Common.{◌≡◌, ◌+◌, [], ◌∷◌, ◌++◌, length, take, set, sym, subst, arith, length-set}
use Rattle.std.proofs.lemmas.List.{length-take-le, length_push, take_more_set}
use Rattle.queue.specs.Places.{Words, Placed}
use Rattle.queue.proofs.Index.{words_push, placed_push, placed_words}
use Rattle.queue.proofs.queue.Queue.append.Goals as goal

-- the entries with the new one are different words of 32 bits, so they are 2 ^ 32 at most
pub overflow_cast-self : goal.overflow_cast-self
overflow_cast-self c =
    let l = c.args.self.now in
    let xs = take l.len l.entries.now in
    let x = c.args.entry in
    let long = length-take-le l.len l.entries.now l.within in
    let few = placed_words (xs ++ x ∷ []) (set l.places.now x (length xs)) (words_push xs x l.words (omega arith)) (placed_push xs l.places.now x c.requires.indexed c.requires.new l.placed) in
    omega (arith, length_push xs x)

pub invariant_of-self-2 : goal.invariant_of-self-2
invariant_of-self-2 c =
    let l = c.args.self.now in
    let xs = l.entries.now in
    let ps = l.places.now in
    let n = l.len in
    let x = c.args.entry in
    let long = length-take-le n xs (omega arith) in
    let front : take (n + 1) (set xs n x) ≡ take n xs ++ x ∷ [] = take_more_set xs n x (omega arith) in
    record {
      within = omega (arith, length-set xs n x);
      words = subst Words (sym front) (words_push (take n xs) x l.words (omega arith));
      placed = subst (λ ys. Placed ys (set ps x n)) (sym front) (subst (λ k. Placed (take n xs ++ x ∷ []) (set ps x k)) long (placed_push (take n xs) ps x c.requires.indexed c.requires.new l.placed));
    }
