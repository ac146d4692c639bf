-- The two cost kinds, and that they keep the laws.
--
--   by_length    adds metres, and stops at 4,294,967,295
--   by_loss      takes the greater loss
use Rattle.std.specs.Prelude.{◌≡◌, ℕ, ◌+◌, ◌≤◌, min, max, nat_le}
use Rattle.std.proofs.Common.{ap, arith}
use mathlib.Core.HLevel.{is_prop→PathP}
use Rattle.std.proofs.Math.Bridge.{le_prop}
use Rattle.std.proofs.lemmas.Bool.{leb-true, leb-false, le-leb}
use Rattle.network.specs.Costs.{Kind, Laws}
use Rattle.network.specs.declared.loss.Loss.{Loss}
use Rattle.network.specs.declared.metres.Metres.{Metres}

pub top_fits : (n : ℕ) → min n 4294967295 ≤ 4294967295
top_fits n = omega arith

-- n metres, or the top where n is above it
abbrev pub stopped : ℕ → Metres
stopped n = record { value = min n 4294967295; fits = top_fits n }

abbrev pub by_length : Kind Metres
by_length = record {
  none = stopped 0;
  joined = λ x y. stopped (x.value + y.value);
  at_most = λ x y. nat_le x.value y.value;
  price = λ l. stopped l.metres;
}

-- two lengths with one value are one length
pub same_metres : (x y : Metres) → x.value ≡ y.value → x ≡ y
same_metres x y e = λ i. record { value = e i; fits = is_prop→PathP (λ k. e k ≤ 4294967295) (λ k. le_prop) x.fits y.fits i }

pub length_laws : Laws by_length
length_laws = record {
  total = λ x y h. le-leb _ _ (omega (arith, leb-false _ _ h));
  antisym = λ x y h k. same_metres x y (omega (arith, leb-true _ _ h, leb-true _ _ k));
  trans = λ x y z h k. le-leb _ _ (omega (arith, leb-true _ _ h, leb-true _ _ k));
  left = λ x. same_metres _ _ (omega arith);
  right = λ x. same_metres _ _ (omega arith);
  assoc = λ x y z. same_metres _ _ (omega arith);
  keeps_left = λ z x y h. le-leb _ _ (omega (arith, leb-true _ _ h));
  keeps_right = λ z x y h. le-leb _ _ (omega (arith, leb-true _ _ h));
  grows_left = λ x y. le-leb _ _ (omega arith);
  grows_right = λ x y. le-leb _ _ (omega arith);
}

abbrev pub a_loss : ℕ → Loss
a_loss n = record { value = n }

abbrev pub by_loss : Kind Loss
by_loss = record {
  none = a_loss 0;
  joined = λ x y. a_loss (max x.value y.value);
  at_most = λ x y. nat_le x.value y.value;
  price = λ l. a_loss l.loss;
}

pub loss_laws : Laws by_loss
loss_laws = record {
  total = λ x y h. le-leb _ _ (omega (arith, leb-false _ _ h));
  antisym = λ x y h k. ap a_loss (omega (arith, leb-true _ _ h, leb-true _ _ k));
  trans = λ x y z h k. le-leb _ _ (omega (arith, leb-true _ _ h, leb-true _ _ k));
  left = λ x. ap a_loss (omega arith);
  right = λ x. ap a_loss (omega arith);
  assoc = λ x y z. ap a_loss (omega arith);
  keeps_left = λ z x y h. le-leb _ _ (omega (arith, leb-true _ _ h));
  keeps_right = λ z x y h. le-leb _ _ (omega (arith, leb-true _ _ h));
  grows_left = λ x y. le-leb _ _ (omega arith);
  grows_right = λ x y. le-leb _ _ (omega arith);
}
