-- When two quotients by one divisor can be rounded outwards and held.
use Rattle.std.specs.Prelude.{ℤ, pos, ◌*◌, ◌^◌, ◌≤◌, ◌≤ℤ◌, ◌<ℤ◌, unsigned_abs}

-- both dividends leave room, are in order, and are small in proportion to the divisor
pub record CanRound (low high by : ℤ) : Type 0 where
  pub positive : pos 0 <ℤ by
  pub ordered : low ≤ℤ high
  pub low_room : unsigned_abs low ≤ 10 ^ 37
  pub high_room : unsigned_abs high ≤ 10 ^ 37
  pub low_small : unsigned_abs low ≤ 10 ^ 25 * unsigned_abs by
  pub high_small : unsigned_abs high ≤ 10 ^ 25 * unsigned_abs by
