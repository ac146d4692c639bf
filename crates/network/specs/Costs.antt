-- What a cost kind is.
--
--   Kind C      a zero, a joining and an order of costs, and a cost for every link
--   Laws k      what every kind keeps; nothing else of a kind is ever used
use Rattle.std.specs.Prelude.{◌≡◌, Bool, true, false}
use Rattle.network.specs.declared.link.Link.{Link}

pub record Kind (C : Type 0) : Type 0 where
  pub none : C
  pub joined : C → C → C
  pub at_most : C → C → Bool
  pub price : Link → C

pub record Laws {C : Type 0} (k : Kind C) : Type 0 where
  -- the order
  pub total : (x y : C) → k.at_most x y ≡ false → k.at_most y x ≡ true
  pub antisym : (x y : C) → k.at_most x y ≡ true → k.at_most y x ≡ true → x ≡ y
  pub trans : (x y z : C) → k.at_most x y ≡ true → k.at_most y z ≡ true → k.at_most x z ≡ true
  -- the joining
  pub left : (x : C) → k.joined k.none x ≡ x
  pub right : (x : C) → k.joined x k.none ≡ x
  pub assoc : (x y z : C) → k.joined (k.joined x y) z ≡ k.joined x (k.joined y z)
  -- joining on either side keeps the order, and never lowers a cost
  pub keeps_left : (z x y : C) → k.at_most x y ≡ true → k.at_most (k.joined z x) (k.joined z y) ≡ true
  pub keeps_right : (z x y : C) → k.at_most x y ≡ true → k.at_most (k.joined x z) (k.joined y z) ≡ true
  pub grows_left : (x y : C) → k.at_most x (k.joined y x) ≡ true
  pub grows_right : (x y : C) → k.at_most x (k.joined x y) ≡ true
