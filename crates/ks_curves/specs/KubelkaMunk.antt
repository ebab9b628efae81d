-- K/S of an opaque layer, by Kubelka and Munk with a single constant.
use Rattle.std.specs.Prelude.{ℕ, ◌-◌, ◌*◌, ◌^◌, pos}
use Rattle.interval_specs.specs.Ends.{Ends}
use Rattle.interval_specs.specs.Operations.{ratio_at}

-- K/S = (1 - R)^2 / 2R at scale n, where R is the reflectance as a fraction: millionths / 10^6
unfoldable pub ks_at : ℕ → ℕ → Ends
ks_at n millionths = ratio_at n (pos ((10 ^ 6 - millionths) * (10 ^ 6 - millionths))) (2 * 10 ^ 6 * millionths)
