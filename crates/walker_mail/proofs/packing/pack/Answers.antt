use Rattle.walker_mail.proofs.packing.pack.Goals as goal

pub returns-clause-packed : goal.returns-clause-packed
returns-clause-packed g c = c.in_ok-parcels.ensures.packed c.args.from c.args.limit c.args.items.items c.in_ok-packing.ensures

pub returns-clause-all : goal.returns-clause-all
returns-clause-all g c = c.in_ok-parcels.ensures.all c.args.from c.args.limit c.args.items.items c.in_ok-packing.ensures
