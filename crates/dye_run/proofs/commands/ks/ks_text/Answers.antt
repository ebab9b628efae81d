use Rattle.std.proofs.Common.{◌≡◌, ◌+◌, ◌*◌, ◌^◌, ◌∙◌, decimal, ap, arith}
use Rattle.ks_curves.specs.KubelkaMunk.{ks_at}
use Rattle.spectral_tables.specs.declared.waves.Waves.{Waves}
use Rattle.dye_run.proofs.Ks.{ks_step}
use Rattle.dye_run.proofs.commands.ks.ks_text.Goals as goal

pub loop-wave-preserved : goal.loop-wave-preserved
loop-wave-preserved c =
    let first : c.from.result ≡ 400 = c.from.ensures ∙ ap (λ (w : Waves). w.first) c.waves-waves.ensures.is in
    let step : c.from-in-loop-wave.result ≡ 10 = c.from-in-loop-wave.ensures ∙ ap (λ (w : Waves). w.step) c.waves-waves.ensures.is in
    let label = c.as_str.ensures.value ∙ c.in_ok-label.ensures.ok ∙ (λ i. decimal (first i + step i * c.loop-wave.wave)) in
    ks_step c.args.curve.now c.loop-wave.wave c.loop-wave.text.items c.push_enclosure.new.text.items c.as_str.result.now _ c.ks.result (omega arith) c.loop-wave.invariant c.in_ok-push_enclosure.ensures label (c.ks.ensures.is ∙ ap (λ m. ks_at (10 ^ 12) m) c.at.ensures.is)
