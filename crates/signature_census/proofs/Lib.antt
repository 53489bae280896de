pub mod PlacedTexts
