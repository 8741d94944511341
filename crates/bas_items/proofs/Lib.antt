pub mod NumberMaps
