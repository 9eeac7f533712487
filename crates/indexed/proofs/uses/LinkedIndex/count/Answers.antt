use Rattle.std.proofs.Common.{length, sym, ap, ◌∙◌, inl, arith}
use Rattle.std.proofs.lemmas.Iterator.Consumers.{count_from_yields_List}
use Rattle.rings.proofs.Gives.{gives}
use Rattle.indexed.specs.Facts.{map_length, sound}
use Rattle.indexed.specs.Links.{nodes_of}
use Rattle.indexed.proofs.Asks.{used_few}
use Rattle.indexed.proofs.uses.LinkedIndex.count.Goals as goal

pub count-requires-clause-fits : goal.count-requires-clause-fits
count-requires-clause-fits c =
    let s = c.args.self.now in
    let z = s.small in
    let e = ap length c.nodes_of.ensures in
    let n = used_few s.room s.words.now (sound s.sound) c.args.k in
    inl (omega arith)

pub overflow_cast-result : goal.overflow_cast-result
overflow_cast-result c =
    let s = c.args.self.now in
    let z = s.small in
    let n = used_few s.room s.words.now (sound s.sound) c.args.k in
    let e = count_from_yields_List c.nodes_of.result c.count.result c.count.ensures.ran (gives c.nodes_of.result (nodes_of s.room s.words.now c.args.k) c.nodes_of.ensures) in
    omega arith

pub returns : goal.returns
returns c =
    let s = c.args.self.now in
    count_from_yields_List c.nodes_of.result c.count.result c.count.ensures.ran (gives c.nodes_of.result (nodes_of s.room s.words.now c.args.k) c.nodes_of.ensures) ∙ sym (map_length (nodes_of s.room s.words.now c.args.k))
