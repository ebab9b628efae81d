mod Magnitudes
mod Texts
mod Digits
mod Bodies
mod RoundTrip
mod WholeFacts
