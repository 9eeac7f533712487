use Rattle.slots.proofs.Slots.{entered_is, removed_is}
use Rattle.slots.proofs.Changes.{retired_is, shortened_is, indexed_is}
use Rattle.slots.proofs.slot_laws.Goals as goal

pub returns : goal.returns
returns c = record {
  enters = λ room ix own used text own' used' text' lost x C free unused owns useds here same sameu. entered_is room ix own used text own' used' text' lost x C free unused owns useds here same sameu;
  removes = λ own own' text k l i h owns room ix used used' lost useds. removed_is own own' text k l i h owns room ix used used' lost useds;
  retires = λ own text k l i h own' owns room ix used lost lost' e. retired_is own text k l i h own' owns room ix used lost lost' e;
  shortens = λ own text k l i h text' v short ends room ix used lost so su. shortened_is own text k l i h text' v short ends room ix used lost so su;
  indexes = λ room own used used' text lost k useds. indexed_is room own used used' text lost k useds;
}
