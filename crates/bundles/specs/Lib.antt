pub mod Bundles
pub mod BundleLaws
