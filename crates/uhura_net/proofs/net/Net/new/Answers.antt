use Rattle.uhura_net.proofs.Empty.{IsNet-empty, net-empty}
use Rattle.uhura_net.proofs.Relisting.{IsKeptNet-empty}
use Rattle.uhura_net.proofs.net.Net.new.Goals as goal

pub invariant_of-result : goal.invariant_of-result
invariant_of-result c =
    IsKeptNet-empty c.in_ok-new.field-0 c.in_ok-vec.field-0.items c.in_ok-new-2.field-0 c.in_ok-new-3.field-0 c.in_ok-new.ensures
    (c.in_ok-vec.ensures.items_if_clones_equal (λ y same. same)) c.in_ok-new-2.ensures c.in_ok-new-3.ensures

pub returns-clause-net : goal.returns-clause-net
returns-clause-net c = net-empty c.in_ok-new.field-0 c.in_ok-vec.field-0.items c.in_ok-new.ensures (c.in_ok-vec.ensures.items_if_clones_equal (λ y same. same))

pub returns-clause-sound : goal.returns-clause-sound
returns-clause-sound c = IsNet-empty c.in_ok-new.field-0 c.in_ok-vec.field-0.items c.in_ok-new.ensures (c.in_ok-vec.ensures.items_if_clones_equal (λ y same. same))
